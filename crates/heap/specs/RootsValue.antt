-- What contracts see of roots: a place, or nothing, at each number.
use Rattle.std.specs.Prelude.{◌≡◌, ◌≢◌, ℕ, ◌+◌, ◌<◌, ◌≤◌, Bool, false, List, Option, Some, None, is_some, count_by, slice_index_or}
use Rattle.layout.specs.declared.place.Place.{Place}

-- what each number from 0 on leads to; the number of the next root; how many roots there is room for; the numbers below the
-- last can be in use
pub record RootsValue : Type 0 where
  pub slots : List (Option Place)
  pub next : ℕ
  pub capacity : ℕ
  pub numbers : ℕ

-- a number is flagged exactly when it is in use
abbrev pub AreFlags : List (Option Place) → List Bool → Type 0
AreFlags slots flags = (n : ℕ) → slice_index_or flags n false ≡ is_some (slice_index_or slots n None)

-- one more root takes no memory
pub record HasRoom (roots : RootsValue) : Type 0 where
  pub fits : count_by is_some roots.slots + 1 ≤ roots.capacity
  pub flagged : roots.next < roots.numbers

-- this number has this now, and each other one keeps what it had
pub record Updates (old new : List (Option Place)) (number : ℕ) (slot : Option Place) : Type 0 where
  pub changed : slice_index_or new number None ≡ slot
  pub others : (other : ℕ) → other ≢ number → slice_index_or new other None ≡ slice_index_or old other None

-- no number from this one on is in use
abbrev pub NoneFrom : List (Option Place) → ℕ → Type 0
NoneFrom slots from = (n : ℕ) → from ≤ n → slice_index_or slots n None ≡ None

-- from this number on it is the lowest one in use, and leads there
pub record IsFirstFrom (slots : List (Option Place)) (from number : ℕ) (place : Place) : Type 0 where
  pub from_on : from ≤ number
  pub leads : slice_index_or slots number None ≡ Some place
  pub lowest : (n : ℕ) → from ≤ n → n < number → slice_index_or slots n None ≡ None
