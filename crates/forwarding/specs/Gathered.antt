-- What passes of boxed cells know together.
use Rattle.std.specs.Prelude.{◌≡◌, ℕ, ◌<◌, List, length, slice_index_or, Option, Some}
use Rattle.forwarding.specs.declared.box_cells.bid.Bid.{Bid}
use Rattle.forwarding.specs.Noted.{NotedValue, IsSoundNotes, bid_at}

-- how many pairs the pass won
abbrev pub win_count : NotedValue → ℕ
win_count p = length p.won

-- what the pass knows is known to all, and it won what it says
abbrev pub IsCovered : List (Option Bid) → NotedValue → Type 0
IsCovered all p = IsSoundNotes p.number p.known p.won × ((name : ℕ) (b : Bid) → bid_at p.known name ≡ Some b → bid_at all name ≡ Some b)

-- of the first passes, one knows the bid of the name
abbrev pub IsKnownTo : ℕ → List NotedValue → ℕ → Bid → Type 0
IsKnownTo many passes name b = (k : ℕ) × (k < many) × ((d : NotedValue) → bid_at (slice_index_or passes k d).known name ≡ Some b)

-- all is what the first passes know together
pub record IsGathered (many : ℕ) (passes : List NotedValue) (all : List (Option Bid)) : Type 0 where
  pub covers : (k : ℕ) (d : NotedValue) → k < many → IsCovered all (slice_index_or passes k d)
  pub only : (name : ℕ) (b : Bid) → bid_at all name ≡ Some b → IsKnownTo many passes name b
