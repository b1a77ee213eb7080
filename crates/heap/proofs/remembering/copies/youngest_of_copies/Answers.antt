use Rattle.std.proofs.Common.{◌≤◌, sym, subst, take_all, arith}
use Rattle.steps.specs.BlockObjects.{copies_of}
use Rattle.heap.specs.Noted.{AreFrom}
use Rattle.heap.proofs.NotedCopies.{copies_from}
use Rattle.heap.proofs.remembering.copies.youngest_of_copies.Goals as goal

pub loop-block-preserved : goal.loop-block-preserved
loop-block-preserved g c = record {
  most = omega (arith, c.loop-block.invariant.most, c.min-youngest.ensures);
  copies = copies_from c.loop-block.youngest c.min-youngest.result c.args.blocks.now c.loop-block.block-index c.block-item.result c.loop-block-test.true (sym c.block-item.is) (omega (arith, c.min-youngest.ensures)) (omega (arith, c.min-youngest.ensures, c.generation.ensures)) c.loop-block.invariant.copies;
  greatest = λ bound le all.
      let here = subst (λ b. bound ≤ b.generation) (sym c.block-item.is) (all c.loop-block.block-index c.block-item.result c.loop-block-test.true) in
      omega (arith, c.loop-block.invariant.greatest bound le all, here, c.min-youngest.ensures, c.generation.ensures);
}

pub returns-clause-copies : goal.returns-clause-copies
returns-clause-copies g c = subst (λ bs. AreFrom c.loop-block.youngest (copies_of bs)) (take_all c.loop-block.block-index c.args.blocks.now c.loop-block-test.false) c.loop-block.invariant.copies
