-- The objects of blocks, and the large ones, as those of a graph.
use Rattle.std.specs.Prelude.{◌≡◌, ℕ, ◌<◌, ◌≤◌, List, [], Option, Some, IsSome, slice_get}
use Rattle.std.specs.Option.{option_map_or}
use Rattle.model.specs.Graph.{Graph, Object, object_at}
use Rattle.model.specs.OldSlots.{Slot, slots_of_fields}
use Rattle.block_pool.specs.BlockValue.{BlockValue, used_of}
use Rattle.steps.specs.Remembered.{object_of_generation}
use Rattle.steps.specs.Words.{target_of_word}
use Rattle.nursery.specs.Table.{slot_at, objects_map}
use Rattle.large_objects.specs.LargeValue.{LargeValue, InUse}
use Rattle.heap_objects.specs.WithLarge.{with_large}

-- each pointer of an object leads to an object
abbrev pub PointersLead : Graph → Type 0
PointersLead graph = (name i target : ℕ) (o : Object) → object_at graph name ≡ Some o → slice_get o.pointers i ≡ Some (Some target) → IsSome (object_at graph target)

-- the objects of the graph are those of the blocks and the large ones, and each of their pointers leads to one
pub record IsHeapGraph (graph : Graph) (table : List (Option BlockValue)) (large : LargeValue) : Type 0 where
  pub fits : (n : ℕ) (block : BlockValue) → slot_at table n ≡ Some block → used_of block ≤ 512
  pub numbers : (n : ℕ) → InUse large n → n < 65535
  pub objects : graph.objects ≡ with_large (objects_map table) large.slots
  pub lead : PointersLead graph

-- a pointer with this word leads to an object, if it is not nil
abbrev pub IsClosedWord : Graph → ℕ → Type 0
IsClosedWord graph word = (target : ℕ) → target_of_word word ≡ Some target → IsSome (object_at graph target)

-- the fields of the object of generation h with that name that lead to objects of generation at most g
abbrev pub slots_at : Graph → (g h name : ℕ) → List Slot
slots_at graph g h name = option_map_or (λ o. slots_of_fields graph g name 0 o.pointers) (object_of_generation graph h name) []
