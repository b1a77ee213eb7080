-- The place whose word it is.
use Rattle.std.specs.Prelude.{ℕ, ◌-◌, ◌/◌, ◌%◌, ◌<◌, ◌≤◌, Option, Some, None}
use native.Mathlib.Decide.{dec_le}
use Rattle.layout.specs.declared.place.Place.{Place}
use Rattle.layout.specs.declared.place.Place.TheVariants.{Small, Large}
use Rattle.layout.specs.Place.{small_word, large_word}

-- the large object with that number, where it is one
abbrev pub large_shown : (number : ℕ) → Dec (number < 65535) → Option Place
large_shown number (yes in_range) = Some (Large (record { number = number; in_range = in_range }))
large_shown number (no _) = None

-- the small object at that offset of that block, where there are such
abbrev pub small_shown : (block offset : ℕ) → Dec (block < 65535) → Dec (offset < 512) → Option Place
small_shown block offset (yes b) (yes o) = Some (Small (record { block = block; offset = offset; block_in_range = b; offset_in_range = o }))
small_shown block offset (yes b) (no _) = None
small_shown block offset (no _) _ = None

-- a word from that of the first large object on is a large object's, and one from that of the first block on a small object's
abbrev pub shown_in : (word : ℕ) → Dec (large_word 0 ≤ word) → Dec (small_word 0 0 ≤ word) → Option Place
shown_in word (yes _) _ = large_shown (word - large_word 0) (dec_le _ _)
shown_in word (no _) (yes _) = small_shown (word / 65536 - 1) (word % 65536) (dec_le _ _) (dec_le _ _)
shown_in word (no _) (no _) = None

-- the place with the word, and none where no place has it
unfoldable pub shown_place : ℕ → Option Place
shown_place word = shown_in word (dec_le _ _) (dec_le _ _)
