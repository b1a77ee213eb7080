-- What holds of the objects of every heap, wherever their pointers lead.
use Rattle.std.specs.Prelude.{◌≡◌, ℕ, ◌+◌, ◌<◌, ◌≤◌, ◌↔◌, false, Some, IsTrue, length, All}
use Rattle.std.specs.List.Sorted.{IsStrictlyIncreasing}
use Rattle.model.specs.Config.{Config}
use Rattle.model.specs.Destination.{IsStep}
use Rattle.model.specs.Graph.{Object, object_at, is_large, size_of}
use Rattle.model.specs.Reached.{has}
use Rattle.layout.specs.Place.{large_word}
use Rattle.steps.specs.ConfigRange.{IsInRange}
use Rattle.steps.specs.HeapValue.{HeapValue}
use Rattle.steps.specs.CollectedHeap.{IsFreeBlock}
use Rattle.heap_objects.specs.Space.{IsRoom, IsPlace, EndsInBlock}
use Rattle.heap_objects.specs.Blocks.{HaveBlocks}

-- an object that a heap may hold: at a step of the shape, with at most so many pointers and plain words
pub record IsHeapObject (config : Config) (o : Object) : Type 0 where
  pub step : IsStep config.shape (o.generation, o.step)
  pub pointers : length o.pointers ≤ 100000
  pub plain : length o.plain ≤ 100000

-- the place of a large object
pub record IsLargePlace (name : ℕ) : Type 0 where
  pub number : ℕ
  pub in_range : number < 65535
  pub is : name ≡ large_word number

-- a small object stands at a small place of a block that exists, and a large one at a large place
pub record IsWellPlaced (config : Config) (name : ℕ) (o : Object) : Type 0 where
  pub small : is_large config.block_words o ≡ false → IsPlace config.blocks name
  pub large : IsTrue (is_large config.block_words o) → IsLargePlace name

-- each object may be one of a heap's, and stands at a place for its size; a small one lies within its block, and no two
-- overlap, since each ends before the next one begins; there are as many rooms as mutators, each within its nursery; a block is free exactly when it is one of the pool's, no object stands in it and it is no large object's;
-- the large objects have blocks of their own
pub record AreObjects (heap : HeapValue) : Type 0 where
  pub range : IsInRange heap.config
  pub objects : (name : ℕ) (o : Object) → object_at heap.graph name ≡ Some o → IsHeapObject heap.config o
  pub places : (name : ℕ) (o : Object) → object_at heap.graph name ≡ Some o → IsWellPlaced heap.config name o
  pub within : (name : ℕ) (o : Object) → object_at heap.graph name ≡ Some o → is_large heap.config.block_words o ≡ false → EndsInBlock heap.config.block_words name (size_of o)
  pub apart : (name next : ℕ) (o p : Object) → object_at heap.graph name ≡ Some o → object_at heap.graph next ≡ Some p → is_large heap.config.block_words o ≡ false → name < next → name + size_of o ≤ next
  pub mutators : length heap.rooms ≡ heap.config.mutators
  pub rooms : All (IsRoom heap.config) heap.rooms
  pub free : (block : ℕ) → IsTrue (has heap.free block) ↔ IsFreeBlock heap block
  pub rising : IsStrictlyIncreasing heap.free
  pub large : HaveBlocks heap
