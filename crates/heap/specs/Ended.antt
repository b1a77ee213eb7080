-- What the end of a collection leaves of blocks and roots, whatever the remembered sets hold.
use Rattle.std.specs.Prelude.{◌≡◌, ℕ, ◌⊎◌, ◌↔◌, List, Some, IsTrue}
use Rattle.std.specs.List.Sorted.{IsStrictlyIncreasing}
use Rattle.std.specs.FinMap.{get}
use Rattle.model.specs.Graph.{Object, object_at, is_large}
use Rattle.model.specs.Live.{Live}
use Rattle.model.specs.Reached.{has}
use Rattle.model.specs.Collected.{Collected, IsLiveOrOlder, renamed}
use Rattle.model.specs.Store.{full_rooms}
use Rattle.steps.specs.HeapValue.{HeapValue}
use Rattle.steps.specs.CollectedHeap.{IsIn, IsFreeBlock}

-- new is what a collection of the generations 0 to g leaves of old, renamed by places, but for the remembered sets
pub record IsEnded (old : HeapValue) (g : ℕ) (places : List (ℕ × ℕ)) (new : HeapValue) : Type 0 where
  pub config : new.config ≡ old.config
  pub graph : Collected old.config.shape old.config.block_words old.graph g places new.graph
  pub fresh : (name : ℕ) (o : Object) → Live old.graph g name → object_at old.graph name ≡ Some o → IsTrue (is_large old.config.block_words o) ⊎ IsIn old.free (renamed places name)
  pub rooms : new.rooms ≡ full_rooms old.config
  pub free : (block : ℕ) → IsTrue (has new.free block) ↔ IsFreeBlock new block
  pub rising : IsStrictlyIncreasing new.free
  pub large_blocks : (name : ℕ) (blocks : List ℕ) → (get new.large_blocks name ≡ Some blocks) ↔ (IsLiveOrOlder old.graph g name × (get old.large_blocks name ≡ Some blocks))
