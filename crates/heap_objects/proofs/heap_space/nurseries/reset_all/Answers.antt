use Rattle.std.proofs.Common.{◌≡◌, ◌<◌, Some, length, set, refl, sym, ap, subst, ◌∙◌, arith, ⊎_elim}
use Rattle.std.proofs.lemmas.Option.{slice_get-get_or}
use Rattle.std.proofs.lemmas.Bool.{cases_eq}
use Rattle.std.proofs.lemmas.List.{length-set}
use Rattle.std.specs.Prelude.{slice_get}
use Rattle.model.proofs.Options.{some_is}
use Rattle.heap_objects.specs.Nursery.{from_first}
use Rattle.heap_objects.proofs.Pushing.{same_map}
use Rattle.heap_objects.proofs.Sound.{get-set_same, get-set_other, get_below}
use Rattle.heap_objects.proofs.heap_space.nurseries.reset_all.Goals as goal

pub loop-number-init : goal.loop-number-init
loop-number-init c = record { len = refl; before = λ m n lt. absurd (omega (arith, lt)); rest = λ m le. refl }

pub loop-number-preserved : goal.loop-number-preserved
loop-number-preserved c =
    let cur = c.loop-number.nurseries in
    let number = c.loop-number.number in
    let in_range : number < length cur = omega (arith, c.loop-number-test.true, c.loop-number.invariant.len) in
    record {
      len = length-set cur number c.reset.new.self ∙ c.loop-number.invariant.len;
      before = λ m n lt is. ⊎_elim
          (λ e.
          let was = c.loop-number.invariant.rest number (omega arith) ∙ subst (λ k. slice_get c.args.nurseries.now k ≡ Some n) e is in
          let same = some_is (sym (slice_get-get_or cur number c.index-nurseries-number.result in_range) ∙ was) in
          ap (slice_get (set cur number c.reset.new.self)) e ∙ get-set_same cur number n c.reset.new.self was ∙ ap Some (c.reset.ensures ∙ ap from_first same))
          (λ ne. get-set_other cur number m c.reset.new.self ne ∙ c.loop-number.invariant.before m n (omega (arith, lt, ne)) is)
          (cases_eq m number);
      rest = λ m le. get-set_other cur number m c.reset.new.self (λ e. absurd (omega (arith, le, e))) ∙ c.loop-number.invariant.rest m (omega (arith, le));
    }

pub returns : goal.returns
returns c =
    same_map from_first c.args.nurseries.now c.loop-number.nurseries c.loop-number.invariant.len
    (λ m n is. c.loop-number.invariant.before m n (omega (arith, get_below c.args.nurseries.now m n is, c.loop-number-test.false)) is)
