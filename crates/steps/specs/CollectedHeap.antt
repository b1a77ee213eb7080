-- What a commit leaves of a heap.
use Rattle.std.specs.Prelude.{◌≡◌, ℕ, ◌<◌, ◌≤◌, ◌⊎◌, ◌↔◌, List, length, Some, IsTrue}
use Rattle.std.specs.List.Sorted.{IsStrictlyIncreasing}
use Rattle.std.specs.FinMap.{get}
use Rattle.model.specs.Graph.{Graph, Object, object_at, is_large}
use Rattle.model.specs.Live.{Live}
use Rattle.model.specs.Reached.{has}
use Rattle.model.specs.Collected.{Collected, IsLiveOrOlder, renamed}
use Rattle.model.specs.Store.{full_rooms}
use Rattle.layout.specs.Place.{small_word}
use Rattle.steps.specs.HeapValue.{HeapValue, nursery_count}
use Rattle.steps.specs.Remembered.{RemembersExactly}

-- the place is in one of the blocks
abbrev pub IsIn : List ℕ → ℕ → Type 0
IsIn blocks place = (block : ℕ) × ((offset : ℕ) × ((offset < 512) × (place ≡ small_word block offset) × IsTrue (has blocks block)))

-- some object of the graph stands in the block
pub record HoldsObject (graph : Graph) (block : ℕ) : Type 0 where
  pub offset : ℕ
  pub object : Object
  pub in_range : offset < 512
  pub there : object_at graph (small_word block offset) ≡ Some object

-- a block of the pool that holds no object and is neither a nursery's nor a large object's
pub record IsFreeBlock (heap : HeapValue) (block : ℕ) : Type 0 where
  pub in_pool : nursery_count heap.config ≤ block
  pub in_range : block < heap.config.blocks
  pub holds_none : ¬ (HoldsObject heap.graph block)
  pub no_large : (name : ℕ) (blocks : List ℕ) → get heap.large_blocks name ≡ Some blocks → ¬ (IsTrue (has blocks block))

-- new is what a collection of the generations 0 to g leaves of old, renamed by places
pub record CollectedHeap (old : HeapValue) (g : ℕ) (places : List (ℕ × ℕ)) (new : HeapValue) : Type 0 where
  pub config : new.config ≡ old.config
  pub graph : Collected old.config.shape old.config.block_words old.graph g places new.graph
  -- each small live object is in a block that was free
  pub fresh : (name : ℕ) (o : Object) → Live old.graph g name → object_at old.graph name ≡ Some o → IsTrue (is_large old.config.block_words o) ⊎ IsIn old.free (renamed places name)
  pub rooms : new.rooms ≡ full_rooms old.config
  pub free : (block : ℕ) → IsTrue (has new.free block) ↔ IsFreeBlock new block
  pub rising : IsStrictlyIncreasing new.free
  -- the blocks of the large objects that are kept stay theirs
  pub large_blocks : (name : ℕ) (blocks : List ℕ) → (get new.large_blocks name ≡ Some blocks) ↔ (IsLiveOrOlder old.graph g name × (get old.large_blocks name ≡ Some blocks))
  -- the remembered sets, one for each generation, are exactly those of the objects
  pub sets : length new.remembered ≡ length old.remembered
  pub remembered : RemembersExactly new.graph new.remembered
