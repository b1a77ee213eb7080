-- The rule of a tally, and what a step on it tells its seat.
use Rattle.std.specs.Prelude.{◌≡◌, ℕ, ◌+◌, ◌-◌, ◌%◌, ◌^◌, ◌≤◌, List, length, slice_index, max}
use mathlib.Core.Option.{some}
use lib.ListN.{get_elem?}
use Rattle.atomic_table.specs.Table.{State, Me, Step}
use Rattle.model.specs.Total.{total}
use Rattle.pending_queues.specs.declared.tally.tally_plays.Count.{Count}

abbrev pub known : ℕ → ℕ → ℕ → Count
known parts raised seen = record { parts = parts; raised = raised; seen = seen }

-- how often the tally was raised
abbrev pub raised_in : List Count → ℕ
raised_in = total (λ (v : Count). v.raised)

-- who has no part has not raised, and what was seen was raised
pub record IsSoundCount (raised : ℕ) (v : Count) : Type 0 where
  pub partless : v.parts ≡ 0 → v.raised ≡ 0
  pub seen : v.seen ≤ raised

-- The word is the number of raises, as far as a word can tell it
pub record IsKeptTally (seats : ℕ) (s : State (Unit {0}) Count) : Type 0 where
  pub wide : length s.words ≡ 1
  pub whole : total (λ (v : Count). v.parts) s.views ≡ seats
  pub sound : (i : ℕ) (v : Count) → get_elem? s.views i ≡ some v → IsSoundCount (raised_in s.views) v
  pub word : slice_index s.words 0 ≡ raised_in s.views % 2 ^ 64

-- a seat with one part
abbrev pub newcomer : Count → Count
newcomer _ = known 1 0 0

-- what is left of a count that gave a part away
abbrev pub dealt : Count → Count
dealt v = known (v.parts - 1) v.raised v.seen

abbrev pub both : Count → Count → Count
both v w = known (v.parts + w.parts) (v.raised + w.raised) (max v.seen w.seen)

abbrev pub spent : Count
spent = known 0 0 0

abbrev Sat : Type 0
Sat = Me (Unit {0}) Count

-- the seat has raised once more
abbrev pub Raised : Step (Unit {0}) → Sat → ℕ → Sat → Type 0
Raised st m found m' = m' ≡ (known m.0.parts (m.0.raised + 1) m.0.seen, m.1)

-- the seat has seen what the word was. It keeps the greatest that it has seen
abbrev pub Saw : Step (Unit {0}) → Sat → ℕ → Sat → Type 0
Saw st m found m' = m' ≡ (known m.0.parts m.0.raised (max m.0.seen found), m.1)

-- nothing changed, and what the seat has seen was raised by it
abbrev pub Checked : Step (Unit {0}) → Sat → ℕ → Sat → Type 0
Checked st m found m' = (m' ≡ m) × (m.0.seen ≤ m.0.raised)
