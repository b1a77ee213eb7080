-- The rule of the idle count, and what a step on it tells its seat.
use Rattle.std.specs.Prelude.{◌≡◌, ◌≢◌, ℕ, ◌+◌, ◌-◌, ◌<◌, ◌≤◌, Bool, true, false, List, length, slice_index, max, ◌==◌}
use mathlib.Core.Option.{some}
use lib.ListN.{get_elem?}
use Rattle.atomic_table.specs.Table.{State, Me, Step}
use Rattle.model.specs.Total.{total, one_if}
use Rattle.idle_count.specs.declared.idle_plays.Share.{Share}

abbrev pub share : ℕ → ℕ → ℕ → ℕ → ℕ → Share
share seats parts idles seen steps = record { seats = seats; parts = parts; idles = idles; seen = seen; steps = steps }

-- how many seats are idle
abbrev pub idles_in : List Share → ℕ
idles_in = total (λ (v : Share). v.idles)

-- Each part counts as one idle seat at most. Where a seat has seen that all are idle, they are
pub record IsSoundShare (seats word : ℕ) (v : Share) : Type 0 where
  pub same : v.parts ≢ 0 → v.seats ≡ seats
  pub idles : v.idles ≤ v.parts
  pub ended : v.parts ≢ 0 → seats ≤ v.seen → word ≡ seats

-- The word is the number of idle seats
pub record IsKeptIdling (seats : ℕ) (s : State (Unit {0}) Share) : Type 0 where
  pub wide : length s.words ≡ 1
  pub whole : total (λ (v : Share). v.parts) s.views ≡ seats
  pub sound : (i : ℕ) (v : Share) → get_elem? s.views i ≡ some v → IsSoundShare seats (slice_index s.words 0) v
  pub word : slice_index s.words 0 ≡ idles_in s.views

-- a seat with one part
abbrev pub newcomer : Share → Share
newcomer v = share v.seats 1 0 0 0

-- what is left of a share that gave a part away
abbrev pub dealt : Share → Share
dealt v = share v.seats (v.parts - 1) v.idles v.seen v.steps

abbrev pub both : Share → Share → Share
both v w = share v.seats (v.parts + w.parts) (v.idles + w.idles) (max v.seen w.seen) (v.steps + w.steps)

abbrev pub spent : Share
spent = share 0 0 0 0 0

-- What a seat says of itself is what it knows. It has one part, and sees the end only where it is idle
pub record IsTold (v : Share) (idle : Bool) (seen : ℕ) : Type 0 where
  pub part : v.parts ≡ 1
  pub idles : v.idles ≡ one_if idle
  pub count : v.seen ≡ seen
  pub most : seen ≤ v.seats
  pub resting : idle ≡ true → 0 < seen
  pub busy : idle ≡ false → seen < v.seats

abbrev Sat : Type 0
Sat = Me (Unit {0}) Share

-- the seat counts as idle, and has seen the count that it made
pub record Rested (st : Step (Unit {0})) (m : Sat) (found : ℕ) (m' : Sat) : Type 0 where
  pub after : m' ≡ (share m.0.seats m.0.parts (m.0.idles + 1) (found + 1) (m.0.steps + 1), m.1)
  pub low : found < m.0.seats

-- the seat has seen the count, in which it counts itself, and which stays once all are idle
pub record Looked (st : Step (Unit {0})) (m : Sat) (found : ℕ) (m' : Sat) : Type 0 where
  pub after : m' ≡ (share m.0.seats m.0.parts m.0.idles found (m.0.steps + 1), m.1)
  pub least : m.0.idles ≤ found
  pub most : found ≤ m.0.seats
  pub lasting : m.0.seats ≤ m.0.seen → found ≡ m.0.seats

-- the seat after a try to wake that found the count which it had seen, or another
abbrev pub after_wake : Share → Bool → Share
after_wake v true = share v.seats v.parts (v.idles - 1) v.seen (v.steps + 1)
after_wake v false = share v.seats v.parts v.idles v.seen (v.steps + 1)

abbrev pub Woke : Step (Unit {0}) → Sat → ℕ → Sat → Type 0
Woke st m found m' = m' ≡ (after_wake m.0 (found == m.0.seen), m.1)
