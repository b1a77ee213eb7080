-- What holds of the blocks that a worker sent to its queue and took of all.
use Rattle.std.specs.Prelude.{◌≡◌, ℕ, List, [], ◌∷◌, length, Option, Some, None, nat_eq, cond}
use Rattle.block_pool.specs.BlockValue.{BlockValue}
use Rattle.pending_queues.specs.PendingValue.{SeatValue}
use Rattle.scavenge.specs.Handed.{CopiesKeyValue}
use Rattle.workers.specs.Joined.{Each}
use Rattle.workers.specs.Ordered.{IsRising}

-- the position on a label, where it is one of worker u's, in front of positions
abbrev pub position_first : ℕ → Option (ℕ × ℕ) → List ℕ → List ℕ
position_first u None positions = positions
position_first u (Some label) positions = cond (nat_eq label.0 u) (label.1 ∷ positions) positions

-- the positions of the blocks of worker u's queue
abbrev pub positions_in : ℕ → List BlockValue → List ℕ
positions_in u [] = []
positions_in u (b ∷ bs) = position_first u b.sent (positions_in u bs)

-- each object of a block that it sent has its name noted, and what it took of each queue has rising positions
pub record IsQueued {A : Type 0} (seat : SeatValue A CopiesKeyValue) : Type 0 where
  pub noted : Each (λ (b : BlockValue). length b.origins ≡ length b.objects) seat.sent
  pub rises : (u : ℕ) → IsRising (positions_in u seat.taken)
