use Rattle.std.proofs.Common.{◌≡◌, ◌≤◌, sym, subst, take_all}
use Rattle.steps.specs.BlockObjects.{copies_of}
use Rattle.heap.specs.Lowest.{AreLowest, lowest_in}
use Rattle.heap.proofs.LowestBlocks.{Counts, lowest_more, counts_bound}
use Rattle.heap.proofs.remembering.lowest.lowest_by_block.Goals as goal

pub loop-block-preserved : goal.loop-block-preserved
loop-block-preserved g c =
    let block = c.block-item.result in
    let old = lowest_in c.loop-block.lowest.items in
    let new = lowest_in c.count_block.new.lowest.items in
    let counts : Counts block old new = record { here = c.in_ok-count_block.ensures.here; others = c.in_ok-count_block.ensures.others } in
    record {
      lowest = lowest_more block old new counts c.args.blocks.now c.loop-block.block-index c.loop-block-test.true (sym c.block-item.is) c.count_block.ensures.fits c.loop-block.invariant.lowest;
      greatest = λ number bound le all.
          let here = subst (λ b. b.number ≡ number → bound ≤ b.generation) (sym c.block-item.is) (all c.loop-block.block-index block c.loop-block-test.true) in
          counts_bound block old new counts number bound (c.loop-block.invariant.greatest number bound le all) here;
    }

pub returns-clause-lowest : goal.returns-clause-lowest
returns-clause-lowest g c = subst (λ bs. AreLowest (lowest_in c.loop-block.lowest.items) (copies_of bs)) (take_all c.loop-block.block-index c.args.blocks.now c.loop-block-test.false) c.loop-block.invariant.lowest
