-- The blocks of the large objects of a heap.
use Rattle.std.specs.Prelude.{◌≡◌, ◌≢◌, ℕ, ◌<◌, ◌≤◌, List, Some, length, nat_eq, IsTrue}
use Rattle.std.specs.List.{IsDistinct}
use Rattle.std.specs.FinMap.{get}
use Rattle.model.specs.Graph.{Object, object_at, size_of, is_large}
use Rattle.model.specs.Reached.{has}
use Rattle.steps.specs.HeapValue.{HeapValue, nursery_count}
use Rattle.steps.specs.CollectedHeap.{HoldsObject}
use Rattle.large_objects.specs.LargeValue.{block_count}

-- exactly as many blocks of the pool as hold the large object, each once, and no small object stands in one
pub record HasBlocks (heap : HeapValue) (o : Object) (blocks : List ℕ) : Type 0 where
  pub large : IsTrue (is_large heap.config.block_words o)
  pub count : length blocks ≡ block_count (size_of o) heap.config.block_words
  pub once : IsDistinct nat_eq blocks
  pub in_pool : (block : ℕ) → IsTrue (has blocks block) → (nursery_count heap.config ≤ block) × (block < heap.config.blocks)
  pub hold_none : (block : ℕ) → IsTrue (has blocks block) → ¬ (HoldsObject heap.graph block)

-- the large objects have blocks, and nothing else does; no block is two objects'
pub record HaveBlocks (heap : HeapValue) : Type 0 where
  pub each : (name : ℕ) (o : Object) → object_at heap.graph name ≡ Some o → IsTrue (is_large heap.config.block_words o) → (blocks : List ℕ) × (get heap.large_blocks name ≡ Some blocks)
  pub theirs : (name : ℕ) (blocks : List ℕ) → get heap.large_blocks name ≡ Some blocks → (o : Object) × (object_at heap.graph name ≡ Some o) × HasBlocks heap o blocks
  pub apart : (name other block : ℕ) (blocks others : List ℕ) → name ≢ other → get heap.large_blocks name ≡ Some blocks → get heap.large_blocks other ≡ Some others → IsTrue (has blocks block) → ¬ (IsTrue (has others block))
