-- Flags by number of the blocks of a table that hold an object, for each generation those of it and of the younger ones.
use Rattle.std.specs.Prelude.{◌≡◌, ℕ, ◌-◌, ◌<◌, ◌≤◌, min, ◌&&◌, nat_le, nat_lt, Bool, false, List, [], length, Option, Some, None, slice_index_or}
use Rattle.block_pool.specs.BlockValue.{BlockValue}
use Rattle.nursery.specs.Table.{slot_at}

-- whether the block is of one of the generations 0 to g and holds some object
abbrev pub holds_young : ℕ → Option BlockValue → Bool
holds_young g None = false
holds_young g (Some block) = nat_le block.generation g && nat_lt 0 (length block.objects)

-- whether the number is flagged for the generations 0 to g; past the last generation nothing more is flagged
abbrev pub is_flagged : List (List Bool) → ℕ → ℕ → Bool
is_flagged areas g number = slice_index_or (slice_index_or areas (min g (length areas - 1)) []) number false

-- a number is flagged for the generations 0 to g exactly where the block with that number is of one of them and holds
-- some object
pub record AreAreas (table : List (Option BlockValue)) (areas : List (List Bool)) : Type 0 where
  pub each : (g number : ℕ) → is_flagged areas g number ≡ holds_young g (slot_at table number)

-- there is a flag for each number below the length, in each generation
pub record HasRoom (areas : List (List Bool)) (len : ℕ) : Type 0 where
  pub each : (h : ℕ) → h < length areas → len ≤ length (slice_index_or areas h [])
