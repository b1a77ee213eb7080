use Rattle.std.proofs.Common.{sym, subst, take_all, arith}
use Rattle.steps.specs.BlockObjects.{copies_of}
use Rattle.heap.specs.Lowest.{lowest_in}
use Rattle.heap.specs.Noted.{AreNoted}
use Rattle.heap.proofs.NotedCopies.{copies_noted, none_older}
use Rattle.heap.proofs.Grown.{grown_more}
use Rattle.heap.proofs.remembering.copies.note_copies.Goals as goal

pub returns-then-not-has_older-clause-noted : goal.returns-then-not-has_older-clause-noted
returns-then-not-has_older-clause-noted g c = (λ _. 0, λ k d lt at is. omega arith, none_older (λ _. 0) c.args.youngest c.args.sets.now c.args.blocks.now (c.has_older.ensures.none c.if-not-has_older.true))

pub returns-in_err-note_block-clause-grown : goal.returns-in_err-note_block-clause-grown
returns-in_err-note_block-clause-grown g c = grown_more _ _ _ c.loop-i.invariant.grown c.note_block.ensures.grown

pub loop-i-preserved : goal.loop-i-preserved
loop-i-preserved g c = record {
  grown = grown_more _ _ _ c.loop-i.invariant.grown c.note_block.ensures.grown;
  noted = copies_noted (lowest_in c.in_ok-lowest.lowest.items) c.args.youngest _ _ c.args.blocks.now c.loop-i.i c.index-blocks-i.result c.loop-i-test.true (sym c.index-blocks-i.is) c.note_block.ensures.grown c.loop-i.invariant.noted (rw c.deref.ensures.value at c.in_ok-note_block.ensures.noted);
}

pub returns-clause-noted : goal.returns-clause-noted
returns-clause-noted g c = (
  lowest_in c.in_ok-lowest.lowest.items,
  c.in_ok-lowest.ensures.lowest,
  subst (λ bs. AreNoted (lowest_in c.in_ok-lowest.lowest.items) c.args.youngest c.loop-i.sets (copies_of bs)) (take_all c.loop-i.i c.args.blocks.now c.loop-i-test.false) c.loop-i.invariant.noted,
)
