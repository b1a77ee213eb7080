use Rattle.std.proofs.Common.{◌≡◌, vec_len}
use Rattle.nursery.proofs.Installing.{Installing}
use Rattle.nursery.proofs.block_table.exchanging.install.Given as goal

-- the blocks that are left, and those that were put in
abbrev pub invariant-loop-block : goal.invariant-loop-block
invariant-loop-block g l = record {
  so_far : Installing l.fn.blocks.items l.blocks.items l.fn.table l.table l.fn.pool.free l.pool.free;
  limit : l.pool.limit ≡ l.fn.pool.limit;
}

abbrev pub decreases-loop-block : goal.decreases-loop-block
decreases-loop-block g l = vec_len l.blocks
