-- The objects of a table's blocks, counted from block to block.
use Rattle.std.specs.Prelude.{◌≡◌, ℕ, ◌<◌, ◌≤◌, true, false, List, length, Option, slice_index}
use Rattle.block_pool.specs.BlockValue.{BlockValue}
use Rattle.nursery.specs.Areas.{holds_young}
use Rattle.nursery.specs.Table.{slot_at, objects_before}

-- each of the first blocks has a count, of the objects of those before it, and all of them hold so many objects
pub record HasCounted (table : List (Option BlockValue)) (bases : List ℕ) (objects : ℕ) : Type 0 where
  pub each : (b : ℕ) → b < length bases → slice_index bases b ≡ objects_before table b
  pub objects_are : objects ≡ objects_before table (length bases)

-- from one number on, up to another and no further, each block is of one of the generations 0 to g and holds some object
pub record IsYoungRun (g : ℕ) (table : List (Option BlockValue)) (from to : ℕ) : Type 0 where
  pub no_shorter : from ≤ to
  pub young : (b : ℕ) → from ≤ b → b < to → holds_young g (slot_at table b) ≡ true
  pub end : holds_young g (slot_at table to) ≡ false
