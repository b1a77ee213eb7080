-- What holds of the fields of large objects. No public clause cites this module.
use Rattle.std.specs.Prelude.{◌≡◌, ℕ, ◌+◌, ◌<◌, ◌≤◌, List, length, take, drop, Bool, false, Option, None, IsSome, is_some, slice_index_or}
use Rattle.layout.specs.Object.{Raw}
use Rattle.large_objects.specs.LargeValue.{LargeObject}

-- the pointers come first in the words of an object, and its plain words follow
abbrev pub raw_in : ℕ → List ℕ → Raw
raw_in pointers words = record { pointers = take pointers words; plain = drop pointers words }

-- what holds of the fields of an object
pub record IsStored (pointers : ℕ) (words : List ℕ) : Type 0 where
  pub pointers_in_words : pointers ≤ length words
  pub pointers_in_range : pointers ≤ 100000
  pub plain_in_range : length words ≤ pointers + 100000

-- a number is flagged exactly when it is in use, and each that is fits a word
pub record AreNumbered (slots : List (Option LargeObject)) (flags : List Bool) : Type 0 where
  pub flagged : (n : ℕ) → slice_index_or flags n false ≡ is_some (slice_index_or slots n None)
  pub in_range : (n : ℕ) → IsSome (slice_index_or slots n None) → n < 65535
