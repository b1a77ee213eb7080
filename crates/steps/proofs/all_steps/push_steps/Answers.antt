use Rattle.std.proofs.Common.{◌≡◌, ◌<◌, ◌++◌, ◌∷◌, [], map, length, sym, ap, ◌∙◌, arith, length-append}
use Rattle.std.proofs.lemmas.List.{map-append, append_assoc, append-nil}
use Rattle.steps.specs.declared.step_id.StepId.{StepId}
use Rattle.steps.specs.StepPairs.{step_pair}
use Rattle.steps.proofs.Numbers.{steps_at, steps-more}
use Rattle.steps.proofs.all_steps.push_steps.Goals as goal

pub loop-step-init : goal.loop-step-init
loop-step-init c = record { pushed = sym (append-nil (map step_pair c.args.found.now.items)); len = omega arith }

pub push-requires : goal.push-requires
push-requires c = (omega arith, let lt : length c.loop-step.found.items < 13 = omega (arith, c.requires.room, c.loop-step.invariant.len, c.loop-step-test.true) in lt)

pub loop-step-preserved : goal.loop-step-preserved
loop-step-preserved c =
    let one : StepId = record { generation = c.args.generation; step = c.loop-step.step } in
    record {
      pushed =
          ap (map step_pair) c.push.ensures.items
          ∙ map-append step_pair c.loop-step.found.items (one ∷ [])
          ∙ ap (λ ps. ps ++ step_pair one ∷ []) c.loop-step.invariant.pushed
          ∙ append_assoc (map step_pair c.args.found.now.items) (steps_at c.args.generation c.loop-step.step) (step_pair one ∷ [])
          ∙ ap (λ ps. map step_pair c.args.found.now.items ++ ps) (sym (steps-more c.args.generation c.loop-step.step));
      len = omega (arith, ap length c.push.ensures.items, length-append c.loop-step.found.items (one ∷ []), c.loop-step.invariant.len);
    }

pub returns : goal.returns
returns c =
    let last : c.loop-step.step ≡ c.args.steps = omega (arith, c.loop-step-test.false, c.loop-step.auto.step-end) in
    c.loop-step.invariant.pushed ∙ ap (λ n. map step_pair c.args.found.now.items ++ steps_at c.args.generation n) last
