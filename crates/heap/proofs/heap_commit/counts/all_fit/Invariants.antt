use Rattle.std.proofs.Common.{◌≤◌}
use Rattle.std.specs.List.{AllWithin}
use Rattle.block_pool.specs.BlockValue.{used_of}
use Rattle.heap.proofs.heap_commit.counts.all_fit.Given as goal

abbrev pub invariant-loop-block : goal.invariant-loop-block
invariant-loop-block g l = AllWithin (λ b. used_of b ≤ b.words) l.blocks 0 l.block-index
