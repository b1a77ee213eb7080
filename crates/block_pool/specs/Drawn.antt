-- The rule of the counter that seats draw by, and what a draw tells its seat.
use Rattle.std.specs.Prelude.{◌≡◌, ℕ, ◌+◌, ◌-◌, ◌<◌, ◌≤◌, Bool, true, false, List, [], ◌∷◌, ◌++◌, length, take, slice_index, slice_index_or, nat_lt}
use mathlib.Core.Option.{some}
use lib.ListN.{get_elem?}
use Rattle.atomic_table.specs.Table.{State, Me, Step}
use Rattle.model.specs.Total.{times, total}
use Rattle.block_pool.specs.declared.claims.claim_plays.Share.{Share}

abbrev pub share : List ℕ → ℕ → ℕ → List ℕ → ℕ → Share
share free seats parts drawn outs = record { free = free; seats = seats; parts = parts; drawn = drawn; outs = outs }

-- how often a number stands in a list
abbrev pub times_in : ℕ → List ℕ → ℕ
times_in x xs = times (λ k. k) x xs

-- how many numbers were drawn
abbrev pub drawn_in : List Share → ℕ
drawn_in = total (λ (v : Share). length v.drawn)

-- how many draws found no number left
abbrev pub outs_in : List Share → ℕ
outs_in = total (λ (v : Share). v.outs)

-- who has no part has drawn nothing, and each part counts at most one draw that found none
pub record IsSoundDraws (v : Share) : Type 0 where
  pub drawn : v.parts ≡ 0 → v.drawn ≡ []
  pub outs : v.outs ≤ v.parts

-- The counter is the number of draws. A draw finds none only where every number was drawn. As many numbers of the free list as were drawn, from the first on, were drawn once, and no others
pub record IsKeptDraws (free : List ℕ) (seats : ℕ) (s : State (Unit {0}) Share) : Type 0 where
  pub wide : length s.words ≡ 1
  pub whole : total (λ (v : Share). v.parts) s.views ≡ seats
  pub sound : (i : ℕ) (v : Share) → get_elem? s.views i ≡ some v → IsSoundDraws v
  pub counter : slice_index s.words 0 ≡ drawn_in s.views + outs_in s.views
  pub few : drawn_in s.views ≤ length free
  pub used_up : 0 < outs_in s.views → drawn_in s.views ≡ length free
  pub once : (x : ℕ) → total (λ (v : Share). times_in x v.drawn) s.views ≡ times_in x (take (drawn_in s.views) free)

-- a seat with one part
abbrev pub newcomer : Share → Share
newcomer v = share v.free v.seats 1 [] 0

-- what is left of a share that gave a part away
abbrev pub dealt : Share → Share
dealt v = share v.free v.seats (v.parts - 1) v.drawn v.outs

abbrev pub both : Share → Share → Share
both v w = share v.free v.seats (v.parts + w.parts) (w.drawn ++ v.drawn) (v.outs + w.outs)

abbrev pub spent : Share
spent = share [] 0 0 [] 0

-- the share after a draw that found this number in the counter, which is a place in the free list, or not
abbrev pub after_draw : Share → ℕ → Bool → Share
after_draw v found true = share v.free v.seats v.parts (v.drawn ++ slice_index_or v.free found 0 ∷ []) v.outs
after_draw v found false = share v.free v.seats v.parts v.drawn (v.outs + 1)

-- What a draw tells: the number is new to the seat, which has drawn no more numbers than there are; and where the only seat finds none, it drew all
pub record Drew (st : Step (Unit {0})) (m : Me (Unit {0}) Share) (found : ℕ) (m' : Me (Unit {0}) Share) : Type 0 where
  pub after : m' ≡ (after_draw m.0 found (nat_lt found (length m.0.free)), m.1)
  pub few : length m'.0.drawn ≤ length m.0.free
  pub fresh : found < length m.0.free → times_in (slice_index_or m.0.free found 0) m.0.drawn ≡ 0
  pub used_up : m.0.seats ≡ 1 → length m.0.free ≤ found → (x : ℕ) → times_in x m.0.drawn ≡ times_in x m.0.free
