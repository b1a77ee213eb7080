-- What contracts see of large objects: an object, or nothing, at each number.
use Rattle.std.specs.Prelude.{◌≡◌, ◌≢◌, ℕ, ◌+◌, ◌-◌, ◌/◌, ◌<◌, ◌≤◌, List, Option, Some, None, IsSome, slice_index_or, slice_set, refl}
use Rattle.std.specs.Coded.{Coded, code_by, coded×, coded_list, coded_ℕ}
use Rattle.layout.specs.Object.{Raw, raw_code}
use Rattle.block_pool.specs.BlockValue.{new_object}

pub record LargeObject : Type 0 where
  -- the generation and the step that it belongs to
  pub generation : ℕ
  pub step : ℕ
  -- its words
  pub raw : Raw
  -- the numbers of its blocks
  pub blocks : List ℕ

abbrev pub large_code : Coded LargeObject
large_code =
    code_by
    ((ℕ × ℕ) × (Raw × List ℕ))
    (coded× (coded× coded_ℕ coded_ℕ) (coded× raw_code (coded_list coded_ℕ)))
    (λ o. ((o.generation, o.step), (o.raw, o.blocks)))
    (λ p. record { generation = p.0.0; step = p.0.1; raw = p.1.0; blocks = p.1.1 })
    (λ _. refl)

-- the object with each number from 0 on; the number of the next object
pub record LargeValue : Type 0 where
  pub slots : List (Option LargeObject)
  pub next : ℕ

-- the object with that number
abbrev pub large_at : LargeValue → ℕ → Option LargeObject
large_at large number = slice_index_or large.slots number None

-- an object has that number
abbrev pub InUse : LargeValue → ℕ → Type 0
InUse large number = IsSome (large_at large number)

-- how many blocks an object of so many words takes, when a block has so many
abbrev pub block_count : ℕ → ℕ → ℕ
block_count size block_words = (size + block_words - 1) / block_words

-- an object of nil pointers and zero words that was just made, with its blocks
abbrev pub made : ℕ → ℕ → List ℕ → LargeObject
made p q blocks = record { generation = 0; step = 0; raw = new_object p q; blocks = blocks }

-- the object at that number is this one now, and nothing else changed
abbrev pub with_object : LargeValue → ℕ → LargeObject → LargeValue
with_object large number object = record large { slots = slice_set large.slots number (Some object) }

-- no object has that number, which is the next to be given, and each other one is as before
abbrev pub without_object : LargeValue → ℕ → LargeValue
without_object large number = record { slots = slice_set large.slots number None; next = number }

-- the object has its number now, and each other one is as before
pub record IsAdded (old new : LargeValue) (number : ℕ) (object : LargeObject) : Type 0 where
  pub was_vacant : large_at old number ≡ None
  pub at : large_at new number ≡ Some object
  pub others : (other : ℕ) → other ≢ number → large_at new other ≡ large_at old other

-- no number from this one on is in use
abbrev pub NoneFrom : LargeValue → ℕ → Type 0
NoneFrom large from = (n : ℕ) → from ≤ n → large_at large n ≡ None

-- from this number on it is the lowest one in use
pub record IsFirstFrom (large : LargeValue) (from number : ℕ) : Type 0 where
  pub from_on : from ≤ number
  pub in_use : InUse large number
  pub lowest : (n : ℕ) → from ≤ n → n < number → large_at large n ≡ None
