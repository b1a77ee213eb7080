-- Where a sweep stands in a block, and where objects go.
use Rattle.std.specs.Prelude.{◌≡◌, ℕ, Some, length, slice_get}
use Rattle.model.specs.Destination.{Shape, dest}
use Rattle.layout.specs.Object.{Raw}
use Rattle.block_pool.specs.BlockValue.{BlockValue, offset_of}
use Rattle.heap.specs.StepPairs.{step_pair}
use Rattle.workers.specs.Setting.{destination_number}
use Rattle.scavenge.specs.declared.sweep.cursor.Cursor.{Cursor}
use Rattle.scavenge.specs.declared.sweep.going.Going.{Going}

-- the first unscanned object of the block begins there and has so many pointers
pub record StandsAt (block : BlockValue) (cursor : Cursor) : Type 0 where
  pub raw : Raw
  pub there : slice_get block.objects block.front ≡ Some raw
  pub at_is : cursor.at ≡ offset_of block.objects block.front
  pub pointers_is : cursor.pointers ≡ length raw.pointers

-- to that destination the small objects go that stand in that generation and step
abbrev pub IsGoing : Shape → Going → Type 0
IsGoing shape going = going.to ≡ destination_number shape (dest shape (step_pair going.from))

-- wherever small objects stand, they go to that destination
abbrev pub AllGo : Shape → ℕ → Type 0
AllGo shape d = (at : ℕ × ℕ) → destination_number shape (dest shape at) ≡ d
