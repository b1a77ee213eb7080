-- One worker's own part of a collection.
use Rattle.std.specs.Prelude.{ℕ, List, Option, Some, None, slice_get, option_and_then}
use Rattle.std.specs.Option.{option_map}
use Rattle.workers.specs.Block.{Block, Copy, front_copy}

-- a copy not yet raced, for a destination, or the claim of a large object
pub data Proposal : Type 0 where
  Copied : (copy : Copy) (destination : ℕ) → Proposal
  Claimed : (name : ℕ) → Proposal

-- what a worker scans: its allocation block for a destination, which is still copied into, a retired or taken block, or a large object
pub data Hand : Type 0 where
  Nothing : Hand
  Open : (destination : ℕ) → Hand
  Holding : (block : Block) → Hand
  HoldingLarge : (name : ℕ) → Hand

-- what one worker of a collection has
pub record Worker : Type 0 where
  pub starts : List ℕ  -- what each unfinished start slot leads to
  pub fields : ℕ  -- how many pointers of the current object are finished
  pub proposal : Option Proposal
  pub hand : Hand
  pub allocation : List (Option Block)  -- by destination
  pub aside : List Block  -- oldest first
  pub done : List Block
  pub large : List ℕ  -- claimed, not yet scanned, oldest first
  pub large_done : List ℕ
  pub won : List (ℕ × ℕ)  -- (name, place), in order
  pub scanned : List ℕ  -- places, in order

-- the allocation block for a destination
abbrev pub allocation_at : Worker → ℕ → Option Block
allocation_at worker d = option_and_then (λ b. b) (slice_get worker.allocation d)

-- the current object: its old name and its place
abbrev pub current_in : Worker → Hand → Option (ℕ × ℕ)
current_in worker Nothing = None
current_in worker (Open d) = option_map (λ c. (c.name, c.place)) (option_and_then front_copy (allocation_at worker d))
current_in worker (Holding block) = option_map (λ c. (c.name, c.place)) (front_copy block)
current_in worker (HoldingLarge name) = Some (name, name)

abbrev pub current_object : Worker → Option (ℕ × ℕ)
current_object worker = current_in worker worker.hand
