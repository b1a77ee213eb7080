-- A pass of boxed cells: what it knows of each cell, and what it won.
use Rattle.std.specs.Prelude.{◌≡◌, ◌≢◌, ◌≤◌, ℕ, List, [], All, length, map, replicate, slice_index_or, Option, Some, None}
use Rattle.std.specs.List.{range_with_len}
use Rattle.layout.specs.declared.place.Place.{Place}
use Rattle.forwarding.specs.declared.box_cells.bid.Bid.{Bid}
use Rattle.forwarding.specs.Settled.{Pairs, wins_of, ones}

pub record NotedValue : Type 0 where
  -- the number of the pass, which no other pass of its cells has
  pub number : ℕ
  -- the names of the cells that it is of, by which the notes of once_cell know them
  pub cells : List ℕ
  -- what each cell is known to hold
  pub known : List (Option Bid)
  -- the pairs that the pass won, in order
  pub won : Pairs

-- the bid of a pass that proposes a place
abbrev pub bid_of : Place → ℕ → Bid
bid_of place number = record { place = place; pass = number }

abbrev pub place_of : Option Bid → Option Place
place_of None = None
place_of (Some b) = Some b.place

-- the bid that is known for a name
abbrev pub bid_at : List (Option Bid) → ℕ → Option Bid
bid_at known name = slice_index_or known name None

-- the place that a pass knows for a name
abbrev pub known_at : NotedValue → ℕ → Option Place
known_at p name = place_of (bid_at p.known name)

-- the pairs that a pass won
abbrev pub won_by : NotedValue → Pairs
won_by p = p.won

-- the pass is of the cells with these names
abbrev pub IsPassOf : List ℕ → NotedValue → Type 0
IsPassOf cells p = p.cells ≡ cells

-- the passes have different numbers, as any two have that cells were made with
abbrev pub IsApart : NotedValue → NotedValue → Type 0
IsApart p q = p.number ≢ q.number

-- a step of a pass changes nothing of it but what it knows and won
pub record IsStep (old new : NotedValue) : Type 0 where
  pub number : new.number ≡ old.number
  pub cells : new.cells ≡ old.cells

-- a pass that knows nothing
abbrev pub new_pass : List ℕ → ℕ → NotedValue
new_pass cells number = record { number = number; cells = cells; known = replicate (length cells) None; won = [] }

-- so many passes, numbered from 0
abbrev pub new_passes : List ℕ → ℕ → List NotedValue
new_passes cells count = map (new_pass cells) (range_with_len 0 count)

-- A pair that was won is known as the pass's own bid, and each name was won at most once
pub record IsSoundNotes (number : ℕ) (known : List (Option Bid)) (won : Pairs) : Type 0 where
  pub own : All (λ x. bid_at known x.0 ≡ Some (bid_of x.1 number)) won
  pub once : (name : ℕ) → wins_of name won ≤ ones (bid_at known name)
