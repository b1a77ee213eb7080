-- What a queue of one thread keeps.
use Rattle.std.specs.Prelude.{◌≡◌, ◌≤◌, ℕ, List, All, drop, length, map}
use Rattle.block_pool.specs.BlockValue.{BlockValue}
use Rattle.pending_queues.specs.PlainValue.{PlainLane}

-- a queue with the key that its blocks were exported for
pub record KeyedLane (K : Type 0) : Type 0 where
  pub key : K
  pub lane : PlainLane

-- The blocks that wait are those that nobody took, in order, and meet the fact; the size of each block that was sent is known
pub record IsPlain {K : Type 0} (fits : K → BlockValue → Type 0) (key : K) (lane : PlainLane) (waiting : List BlockValue) (sizes : List ℕ) : Type 0 where
  pub few : length lane.takers ≤ length lane.sent
  pub rest : waiting ≡ drop (length lane.takers) lane.sent
  pub facts : All (fits key) waiting
  pub sizes_sent : sizes ≡ map (λ b. length b.objects) lane.sent
