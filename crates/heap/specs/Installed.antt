-- What a commit leaves of the objects: the copies, the others that stay, and in those some pointers rewritten.
use Rattle.std.specs.Prelude.{◌≡◌, ℕ, ◌<◌, List, length, Option, IsSomeAnd}
use Rattle.std.specs.Option.{option_map}
use Rattle.std.specs.FinMap.{get}
use Rattle.layout.specs.declared.place.Place.{Place}
use Rattle.block_pool.specs.BlockValue.{BlockValue}
use Rattle.heap_objects.specs.Objects.{ObjectsValue}
use Rattle.heap_objects.specs.Collecting.{Stays, IsReplaced}
use Rattle.heap.specs.Moves.{with_writes}

-- it is a field of an object that stays where it stands
abbrev pub CanWrite : ObjectsValue → ℕ → List (Option Place) → ℕ × (ℕ × ℕ) → Type 0
CanWrite objects g places w = IsSomeAnd (get objects.objects w.0) (λ o. Stays objects g places w.0 o × (w.1.0 < length o.pointers))

-- the blocks took the place of what was collected, and then these pointers were written
pub record Installed (old : ObjectsValue) (g : ℕ) (blocks : List BlockValue) (places : List (Option Place)) (writes : List (ℕ × (ℕ × ℕ))) (new : ObjectsValue) : Type 0 where
  pub replaced : ObjectsValue
  pub replaces : IsReplaced old g blocks places replaced
  pub config : new.config ≡ replaced.config
  pub rooms : new.rooms ≡ replaced.rooms
  pub large_blocks : new.large_blocks ≡ replaced.large_blocks
  pub objects : (name : ℕ) → get new.objects name ≡ option_map (with_writes writes name) (get replaced.objects name)
