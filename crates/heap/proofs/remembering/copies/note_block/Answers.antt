use Rattle.std.proofs.Common.{◌≤◌, length, arith, ⊎_elim, subst, sym}
use Rattle.std.proofs.lemmas.Bool.{cases_eq}
use Rattle.heap.specs.Lowest.{lowest_in}
use Rattle.heap.specs.Noted.{IsNotedAt}
use Rattle.heap.proofs.NotedCopies.{block_noted, block_each, noted_youngest, noted_past, noted_at_still}
use Rattle.heap.proofs.Grown.{grown_more}
use Rattle.heap.proofs.remembering.copies.note_block.Goals as goal

pub returns-then-generation-youngest-clause-noted : goal.returns-then-generation-youngest-clause-noted
returns-then-generation-youngest-clause-noted g c =
    let first : c.args.block.now.generation ≤ c.args.youngest = omega (arith, c.generation-generation.ensures, c.if-generation-youngest.true) in
    block_each (lowest_in c.args.lowest.now) c.args.youngest c.args.sets.now c.args.block.now (λ k raw is. noted_youngest (lowest_in c.args.lowest.now) c.args.youngest c.args.sets.now c.args.block.now k raw is first)

pub returns-then-generation-generations-clause-noted : goal.returns-then-generation-generations-clause-noted
returns-then-generation-generations-clause-noted g c =
    let past : length c.args.sets.now ≤ c.args.block.now.generation = omega (arith, c.generation-generation.ensures, c.generations.ensures.value, c.if-generation-generations.true) in
    block_each (lowest_in c.args.lowest.now) c.args.youngest c.args.sets.now c.args.block.now (λ k raw is. noted_past (lowest_in c.args.lowest.now) c.args.youngest c.args.sets.now c.args.block.now k raw is past)

pub returns-in_err-note_object-clause-grown : goal.returns-in_err-note_object-clause-grown
returns-in_err-note_object-clause-grown g c = grown_more _ _ _ c.loop-k.invariant.grown c.note_object.ensures.grown

pub loop-k-preserved : goal.loop-k-preserved
loop-k-preserved g c = record {
  grown = grown_more _ _ _ c.loop-k.invariant.grown c.note_object.ensures.grown;
  noted = λ k lt. ⊎_elim
      (λ same. subst (IsNotedAt (lowest_in c.args.lowest.now) c.args.youngest c.note_object.new.sets c.args.block.now) (sym same) (c.in_ok-note_object.ensures.noted c.args.youngest))
      (λ differ. noted_at_still (lowest_in c.args.lowest.now) c.args.youngest _ _ c.args.block.now k c.note_object.ensures.grown (c.loop-k.invariant.noted k (omega (arith, lt, differ))))
      (cases_eq k c.loop-k.k);
}

pub returns-clause-noted : goal.returns-clause-noted
returns-clause-noted g c = block_noted (lowest_in c.args.lowest.now) c.args.youngest c.loop-k.sets c.args.block.now c.loop-k.k (omega (arith, c.loop-k-test.false, c.len-k-end.ensures.value)) c.loop-k.invariant.noted
