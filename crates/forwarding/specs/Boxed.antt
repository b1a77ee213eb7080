-- What boxed cells and their passes hold, and what two notes know together.
use Rattle.std.specs.Prelude.{◌≡◌, ◌≤◌, ℕ, List, length, map, Option, Some, None, IfSome}
use Rattle.std.specs.declared.alloc.Global.{Global}
use Rattle.once_cell.specs.declared.race.note.Note.{Note}
use Rattle.once_cell.specs.Once.{cell_name}
use Rattle.forwarding.specs.declared.box_cells.bid.Bid.{Bid}
use Rattle.forwarding.specs.Settled.{Pairs}
use Rattle.forwarding.specs.Noted.{IsSoundNotes, bid_at}

abbrev pub note_cell : Note Bid → ℕ
note_cell n = n.cell

abbrev pub note_known : Note Bid → Option Bid
note_known n = n.known

-- the name of each cell
abbrev pub names_of : List (Global × ℕ) → List ℕ
names_of cells = map cell_name cells

-- The notes know what the pass knows, and there is room for each name among the pairs that it won
pub record IsNoted (number : ℕ) (notes : List (Note Bid)) (known : List (Option Bid)) (won : Pairs) (room : ℕ) : Type 0 where
  pub told : map note_known notes ≡ known
  pub sound : IsSoundNotes number known won
  pub enough : length known ≤ room

-- what is known by one or the other, who agree where both know something
abbrev pub Joined : Option Bid → Option Bid → Option Bid → Type 0
Joined None other both = both ≡ other
Joined (Some b) other both = (both ≡ Some b) × IfSome other (λ c. c ≡ b)

abbrev pub Joins : List (Option Bid) → List (Option Bid) → List (Option Bid) → Type 0
Joins one other both = (name : ℕ) → Joined (bid_at one name) (bid_at other name) (bid_at both name)
