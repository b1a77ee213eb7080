-- Plain cells and their passes, as contracts see them.
use Rattle.std.specs.Prelude.{◌≡◌, ◌≢◌, ◌<◌, ◌^◌, ℕ, List, [], ◌==◌, if◌then◌else◌, All, length, map, replicate, slice_index_or, Option, Some, None}
use Rattle.std.specs.List.{range_with_len}
use Rattle.layout.specs.declared.place.Place.{Place}
use Rattle.layout.specs.Place.{pointer_word}
use Rattle.forwarding.specs.declared.cells.outcome.Outcome.{Outcome}
use Rattle.forwarding.specs.declared.cells.outcome.Outcome.TheVariants.{Won, Lost}
use Rattle.forwarding.specs.declared.plain_cells.held.Held.{Held}
use Rattle.forwarding.specs.Settled.{Pairs, wins_of}

-- what each cell holds, and how many passes were made with the cells
pub record PlainValue : Type 0 where
  pub held : List (Option Held)
  pub passes : ℕ

-- the number of the pass, how many were made with it, the place that it knows for each name, and the pairs that it won, in order
pub record PlainPassValue : Type 0 where
  pub number : ℕ
  pub passes : ℕ
  pub known : List (Option Place)
  pub won : Pairs

-- the place that a pass knows for a name
abbrev pub known_by : PlainPassValue → ℕ → Option Place
known_by pass name = slice_index_or pass.known name None

abbrev pub place_of : Option Held → Option Place
place_of None = None
place_of (Some held) = Some held.place

-- the place that the name's cell holds
abbrev pub place_held : List (Option Held) → ℕ → Option Place
place_held held name = place_of (slice_index_or held name None)

-- 1 where the pass with the number won the cell, and else 0
abbrev pub by_of : ℕ → Option Held → ℕ
by_of number None = 0
by_of number (Some held) = if number == held.winner then 1 else 0

-- the pass with the number won the pair
abbrev pub IsWinOf : List (Option Held) → ℕ → ℕ × Place → Type 0
IsWinOf held number x = slice_index_or held x.0 None ≡ Some (record { place = x.1; winner = number })

-- the pass is one of as many as were made with the cells
abbrev pub IsAtHome : PlainValue → PlainPassValue → Type 0
IsAtHome cells pass = (pass.number < cells.passes) × (pass.passes ≡ cells.passes)

-- The pass is one of these cells: it knows only what they hold, and won the cells that have its number, each once
pub record IsFit (cells : PlainValue) (pass : PlainPassValue) : Type 0 where
  pub mine : IsAtHome cells pass
  pub many : length pass.known ≡ length cells.held
  pub known : (name : ℕ) (place : Place) → known_by pass name ≡ Some place → place_held cells.held name ≡ Some place
  pub won : All (IsWinOf cells.held pass.number) pass.won
  pub once : (name : ℕ) → wins_of name pass.won ≡ by_of pass.number (slice_index_or cells.held name None)

-- the passes have two numbers
abbrev pub Differ : PlainPassValue → PlainPassValue → Type 0
Differ pass other = pass.number ≢ other.number

-- a race is won exactly where the cell holds nothing: it then holds the place, and the others what they did; else nothing changes
abbrev pub RacesTo : PlainValue → ℕ → Place → Outcome → PlainValue → Type 0
RacesTo cells name place Won after = (place_held cells.held name ≡ None) × (place_held after.held name ≡ Some place) × ((other : ℕ) → other ≢ name → place_held after.held other ≡ place_held cells.held other) × (after.passes ≡ cells.passes)
RacesTo cells name place (Lost first) after = (place_held cells.held name ≡ Some first) × (after ≡ cells)

-- cells that hold nothing
abbrev pub empty_cells : ℕ → ℕ → PlainValue
empty_cells count passes = record { held = replicate count None; passes = passes }

-- the pass with that number, which knows nothing and has won nothing
abbrev pub fresh_pass : ℕ → ℕ → ℕ → PlainPassValue
fresh_pass count passes number = record { number = number; passes = passes; known = replicate count None; won = [] }

-- the first of that many passes, by number
abbrev pub fresh_passes : ℕ → ℕ → ℕ → List PlainPassValue
fresh_passes count passes many = map (fresh_pass count passes) (range_with_len 0 many)

-- the cell's winner is one of that many passes
abbrev pub IsWonBelow : ℕ → Option Held → Type 0
IsWonBelow passes None = Unit {0}
IsWonBelow passes (Some held) = held.winner < passes

-- the word of a cell: that of the place which it holds, or 0
abbrev pub word_of : Option Held → ℕ
word_of held = pointer_word (place_of held)

-- What holds of the cells: the words, of which they have the short ones, are those of what they hold
pub record ArePlainCells (words : List ℕ) (held : List (Option Held)) (passes : ℕ) : Type 0 where
  pub shown : words ≡ map word_of held
  pub few : length held < 2 ^ 32
  pub winners : All (IsWonBelow passes) held
