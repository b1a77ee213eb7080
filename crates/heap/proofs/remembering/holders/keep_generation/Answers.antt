use Rattle.std.proofs.Common.{◌≡◌, ◌+◌, ◌-◌, true, drop, refl, subst, ◌∙◌, arith, ⊎_elim}
use Rattle.model.specs.Reached.{has}
use Rattle.remembered_set.specs.Sets.{members_of}
use Rattle.heap.proofs.Pointing.{none_past, all_from}
use Rattle.heap.proofs.remembering.holders.keep_generation.Goals as goal

pub loop-k-init : goal.loop-k-init
loop-k-init g c = record {
  generations = refl;
  others = λ other ne. refl;
  in_range = omega (arith, c.len-k.ensures.value);
  members = λ n h. h;
  kept = λ n h holder. h;
  from = λ n h. absurd (none_past (members_of c.args.sets.now c.args.h) c.len-k.result n (omega (arith, c.len-k.ensures.value)) h);
}

pub loop-k-preserved : goal.loop-k-preserved
loop-k-preserved g c =
    let next : c.loop-k.k - 1 + 1 ≡ c.loop-k.k = omega (arith, c.loop-k-test.true) in
    record {
      generations = c.keep_or_remove.ensures.generations ∙ c.loop-k.invariant.generations;
      others = λ other ne. c.keep_or_remove.ensures.others other ne ∙ c.loop-k.invariant.others other ne;
      in_range = c.keep_or_remove.ensures.at_least;
      members = λ n h. c.loop-k.invariant.members n (c.keep_or_remove.ensures.members n h);
      kept = λ n h holder. c.keep_or_remove.ensures.kept n (c.loop-k.invariant.kept n h holder) holder;
      from = λ n h. ⊎_elim (λ holder. holder) (λ rest. c.loop-k.invariant.from n (subst (λ j. has (drop j (members_of c.loop-k.sets c.args.h)) n ≡ true) next rest)) (c.keep_or_remove.ensures.from n h);
    }

pub returns-clause-members : goal.returns-clause-members
returns-clause-members g c = λ n. (
  λ h. (c.loop-k.invariant.members n h, c.loop-k.invariant.from n (all_from (members_of c.loop-k.sets c.args.h) c.loop-k.k n (omega (arith, c.loop-k-test.false)) h)),
  λ h. c.loop-k.invariant.kept n h.0 h.1,
)
