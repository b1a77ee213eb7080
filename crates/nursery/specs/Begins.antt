-- Where objects begin in the blocks of a table.
use Rattle.std.specs.Prelude.{◌≡◌, ℕ, ◌<◌, List, length, Option, Some}
use Rattle.block_pool.specs.BlockValue.{BlockValue, offset_of}
use Rattle.nursery.specs.Table.{slot_at}

-- an object begins at that offset of that block
pub record HasObjectAt (table : List (Option BlockValue)) (number offset : ℕ) : Type 0 where
  pub block : BlockValue
  pub ordinal : ℕ
  pub there : slot_at table number ≡ Some block
  pub in_block : ordinal < length block.objects
  pub at : offset_of block.objects ordinal ≡ offset
