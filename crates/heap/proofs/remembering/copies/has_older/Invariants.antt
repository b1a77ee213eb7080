use Rattle.std.proofs.Common.{ℕ, ◌<◌, ◌≤◌, get_or}
use Rattle.block_pool.specs.BlockValue.{BlockValue}
use Rattle.heap.proofs.remembering.copies.has_older.Given as goal

-- none so far
abbrev pub invariant-loop-block : goal.invariant-loop-block
invariant-loop-block g l = (k : ℕ) (d : BlockValue) → k < l.block-index → (get_or l.blocks k d).generation ≤ l.youngest
