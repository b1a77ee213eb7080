use Rattle.std.proofs.Common.{sym, subst, arith, ⊎_elim}
use Rattle.std.proofs.lemmas.Bool.{cases_eq, cases_lt}
use Rattle.heap.specs.Noted.{IsLargeNoted}
use Rattle.heap.proofs.Grown.{grown_more}
use Rattle.heap.proofs.LargeNoted.{large_still, kept_none, noted_not}
use Rattle.heap.proofs.remembering.large_copies.note_large.Goals as goal

pub returns-in_err-note_kept-clause-grown : goal.returns-in_err-note_kept-clause-grown
returns-in_err-note_kept-clause-grown g c = grown_more _ _ _ c.loop-of.invariant.grown c.note_kept.ensures.grown

pub loop-of-preserved : goal.loop-of-preserved
loop-of-preserved g c =
    let next = rw c.in-Some.is at c.next_large.ensures in
    let objects = c.args.objects.now in
    let generation = c.args.collection.now.generation in
    let places = c.args.places.now in
    record {
      grown = grown_more _ _ _ c.loop-of.invariant.grown c.note_kept.ensures.grown;
      low = omega (arith, c.in-Some.of.in_range);
      noted = λ number lt. ⊎_elim
          (λ same. subst (IsLargeNoted c.args.youngest c.note_kept.new.sets objects generation places) (sym same) c.in_ok-note_kept.ensures.noted)
          (λ differ. ⊎_elim
          (λ before. large_still objects generation places c.args.youngest _ _ number c.note_kept.ensures.grown (c.loop-of.invariant.noted number before))
          (λ after. noted_not objects generation places number c.args.youngest c.note_kept.new.sets (kept_none objects generation places number (next.lowest number after (omega (arith, lt, differ)))))
          (cases_lt number c.loop-of.from))
          (cases_eq number c.in-Some.of.number);
    }

pub returns-clause-noted : goal.returns-clause-noted
returns-clause-noted g c =
    let objects = c.args.objects.now in
    let generation = c.args.collection.now.generation in
    let places = c.args.places.now in
    let none = rw c.in_default.is at c.next_large.ensures in
    λ number. ⊎_elim
    (λ before. c.loop-of.invariant.noted number before)
    (λ after. noted_not objects generation places number c.args.youngest c.loop-of.sets (kept_none objects generation places number (none number after)))
    (cases_lt number c.loop-of.from)
