use Rattle.std.proofs.Common.{◌<◌, ◌++◌, ◌∷◌, [], map, take, get_or, length, sym, ap, ◌∙◌, arith, length-append}
use Rattle.std.proofs.lemmas.List.{map-append, take_all, take_more}
use Rattle.std.specs.FinMap.{values}
use Rattle.model.specs.Census.{step_count}
use Rattle.steps.specs.StepPairs.{step_pair}
use Rattle.steps.specs.CensusView.{step_value}
use Rattle.steps.specs.declared.step_id.StepId.{StepId}
use Rattle.heap.proofs.counts.counts_of.Goals as goal

pub loop-number-init : goal.loop-number-init
loop-number-init g c = record { counted = ap (map step_value) c.new-counts.ensures; len = ap length c.new-counts.ensures }

pub push-requires : goal.push-requires
push-requires g c = (omega arith, let lt : length c.loop-number.counts.items < 13 = omega (arith, c.loop-number-test.true, c.loop-number.invariant.len, c.requires) in lt)

pub loop-number-preserved : goal.loop-number-preserved
loop-number-preserved g c =
    let first : StepId = record { generation = 0; step = 0 } in
    let each = step_count c.args.objects.now.config.block_words (values c.args.objects.now.objects) in
    record {
      counted =
          ap (map step_value) c.push.ensures.items
          ∙ map-append step_value c.loop-number.counts.items (c.count.result ∷ [])
          ∙ ap (λ ss. ss ++ step_value c.count.result ∷ []) c.loop-number.invariant.counted
          ∙ ap (λ s. map each (map step_pair (take c.loop-number.number c.args.steps.now)) ++ s ∷ []) c.count.ensures
          ∙ sym (ap (λ ss. map each (map step_pair ss)) (take_more c.args.steps.now c.loop-number.number first c.loop-number-test.true)
          ∙ ap (map each) (map-append step_pair (take c.loop-number.number c.args.steps.now) (get_or c.args.steps.now c.loop-number.number first ∷ []))
          ∙ map-append each (map step_pair (take c.loop-number.number c.args.steps.now)) (step_pair (get_or c.args.steps.now c.loop-number.number first) ∷ []));
      len = omega (arith, ap length c.push.ensures.items, length-append c.loop-number.counts.items (c.count.result ∷ []), c.loop-number.invariant.len);
    }

pub returns : goal.returns
returns g c =
    c.loop-number.invariant.counted
    ∙ ap (λ ss. map (step_count c.args.objects.now.config.block_words (values c.args.objects.now.objects)) (map step_pair ss)) (take_all c.loop-number.number c.args.steps.now c.loop-number-test.false)
