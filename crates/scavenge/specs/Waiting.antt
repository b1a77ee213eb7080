-- What is left of the free blocks, and what waits in a queue.
use Rattle.std.specs.Prelude.{ℕ, List, [], ◌∷◌, length, drop}
use Rattle.block_pool.specs.BlockValue.{BlockValue}
use Rattle.pending_queues.specs.PlainValue.{PlainLane}
use Rattle.workers.specs.System.{without_number}

-- the blocks that nobody took yet
abbrev pub waiting_in : PlainLane → List BlockValue
waiting_in lane = drop (length lane.takers) lane.sent

-- what is left of the free blocks when these were drawn
abbrev pub left_of : List ℕ → List ℕ → List ℕ
left_of free [] = free
left_of free (number ∷ numbers) = left_of (without_number number free) numbers
