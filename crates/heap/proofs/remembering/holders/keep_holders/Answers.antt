use Rattle.std.proofs.Common.{ℕ, refl, sym, subst, ◌∙◌, arith, ⊎_elim}
use Rattle.std.proofs.lemmas.Bool.{cases_eq}
use Rattle.std.specs.Prelude.{◌↔◌, IsTrue, nat_eq}
use Rattle.std.specs.List.{IsDistinct}
use Rattle.model.specs.Reached.{has}
use Rattle.steps.specs.Remembered.{is_holder}
use Rattle.heap_objects.specs.Objects.{graph_in}
use Rattle.remembered_set.specs.Sets.{members_of}
use Rattle.heap.proofs.remembering.holders.keep_holders.Goals as goal

pub loop-h-init : goal.loop-h-init
loop-h-init g c = record {
  generations = refl;
  members = λ h n lt. absurd (omega (arith, lt));
  once = λ h lt. absurd (omega (arith, lt));
  after = λ h le. refl;
}

pub loop-h-preserved : goal.loop-h-preserved
loop-h-preserved g c =
    let here = c.loop-h.h in
    let holder = is_holder (graph_in c.args.objects.now) in
    let same_set = c.loop-h.invariant.after here (omega arith) in
    let done : (n : ℕ) → IsTrue (has (members_of c.keep_generation.new.sets here) n) ↔ (IsTrue (has (members_of c.args.sets.now here) n) × IsTrue (holder here n)) =
    λ n. subst (λ ms. IsTrue (has (members_of c.keep_generation.new.sets here) n) ↔ (IsTrue (has ms n) × IsTrue (holder here n))) same_set (c.keep_generation.ensures.members n) in
    record {
      generations = c.keep_generation.ensures.generations ∙ c.loop-h.invariant.generations;
      members = λ h n lt. ⊎_elim
          (λ same. subst (λ k. IsTrue (has (members_of c.keep_generation.new.sets k) n) ↔ (IsTrue (has (members_of c.args.sets.now k) n) × IsTrue (holder k n))) (sym same) (done n))
          (λ differ. subst (λ ms. IsTrue (has ms n) ↔ (IsTrue (has (members_of c.args.sets.now h) n) × IsTrue (holder h n))) (sym (c.keep_generation.ensures.others h differ)) (c.loop-h.invariant.members h n (omega (arith, lt, differ))))
          (cases_eq h here);
      once = λ h lt. ⊎_elim
          (λ same. subst (λ k. IsDistinct nat_eq (members_of c.keep_generation.new.sets k)) (sym same) c.keep_generation.ensures.once)
          (λ differ. subst (IsDistinct nat_eq) (sym (c.keep_generation.ensures.others h differ)) (c.loop-h.invariant.once h (omega (arith, lt, differ))))
          (cases_eq h here);
      after = λ h le. c.keep_generation.ensures.others h (omega (arith, le)) ∙ c.loop-h.invariant.after h (omega (arith, le));
    }

pub returns-clause-members : goal.returns-clause-members
returns-clause-members g c = λ h n lt. c.loop-h.invariant.members h n (omega (arith, lt, c.loop-h-test.false, c.generations-h-end.ensures.value))

pub returns-clause-once : goal.returns-clause-once
returns-clause-once g c = λ h lt. c.loop-h.invariant.once h (omega (arith, lt, c.loop-h-test.false, c.generations-h-end.ensures.value))
