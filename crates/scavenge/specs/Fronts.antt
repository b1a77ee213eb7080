-- Blocks by destination, and their first unscanned objects.
use Rattle.std.specs.Prelude.{ℕ, ◌+◌, Bool, false, List, length, Option, Some, None, slice_get, nat_le, nat_lt, option_and_then}
use Rattle.std.specs.Option.{option_map}
use Rattle.layout.specs.Object.{Raw}
use Rattle.block_pool.specs.BlockValue.{BlockValue, used_of}
use Rattle.steps.specs.Words.{target_of_word}

-- the block for a destination
abbrev pub slot_at : List (Option BlockValue) → ℕ → Option BlockValue
slot_at slots d = option_and_then (λ b. b) (slice_get slots d)

-- whether the block has something unscanned
abbrev pub is_unscanned : Option BlockValue → Bool
is_unscanned None = false
is_unscanned (Some block) = nat_lt block.front (length block.objects)

-- the first unscanned object
abbrev pub front_raw : Option BlockValue → Option Raw
front_raw None = None
front_raw (Some block) = slice_get block.objects block.front

abbrev pub raw_field : ℕ → Option Raw → Option ℕ
raw_field i None = None
raw_field i (Some raw) = slice_get raw.pointers i

-- what pointer i of the first unscanned object holds
abbrev pub front_field : ℕ → Option BlockValue → Option (Option ℕ)
front_field i block = option_map target_of_word (raw_field i (front_raw block))

-- whether an object of this size fits at the end of the block
abbrev pub fits_at : ℕ → Option BlockValue → Bool
fits_at size None = false
fits_at size (Some block) = nat_le (used_of block + size) block.words
