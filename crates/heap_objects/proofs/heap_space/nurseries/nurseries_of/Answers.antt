use Rattle.std.proofs.Common.{◌≡◌, ◌*◌, ◌∷◌, [], length, Some, sym, ap, ◌∙◌, arith, length-append, ⊎_elim}
use Rattle.std.proofs.lemmas.Bool.{cases_lt}
use Rattle.nursery.specs.NurseryValue.{NurseryValue}
use Rattle.heap_objects.proofs.Pushing.{get-push_before, get-push_last}
use Rattle.heap_objects.proofs.heap_space.nurseries.nurseries_of.Goals as goal

pub loop-mutator-init : goal.loop-mutator-init
loop-mutator-init g c = record { len = ap length c.in_ok-nurseries.ensures.items; each = λ m lt. absurd (omega (arith, lt)) }

pub loop-mutator-preserved : goal.loop-mutator-preserved
loop-mutator-preserved g c =
    let items = c.in_ok-push.ensures.items in
    let old = c.loop-mutator.nurseries.items in
    record {
      len = omega (arith, ap length items, length-append old (c.new.result ∷ []), c.loop-mutator.invariant.len);
      each = λ m lt. rw items (⊎_elim
          (λ below. get-push_before old c.new.result m (omega (arith, below, c.loop-mutator.invariant.len)) ∙ c.loop-mutator.invariant.each m below)
          (λ above.
          let last : m ≡ c.loop-mutator.mutator = omega (arith, lt, above) in
          get-push_last old c.new.result m (last ∙ sym c.loop-mutator.invariant.len)
          ∙ ap Some (c.new.ensures ∙ ap (λ k. let n : NurseryValue = record { first = k * c.args.blocks; blocks = c.args.blocks; current = 0 } in n) (sym last)))
          (cases_lt m c.loop-mutator.mutator));
    }

pub returns : goal.returns
returns g c =
    let last : c.loop-mutator.mutator ≡ c.args.mutators = omega (arith, c.loop-mutator-test.false, c.loop-mutator.auto.mutator-end) in
    record { len = c.loop-mutator.invariant.len ∙ last; each = λ m lt. c.loop-mutator.invariant.each m (omega (arith, lt, last)) }
