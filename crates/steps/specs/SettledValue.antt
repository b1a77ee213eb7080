-- What workers bring back from a collection, and when it may be committed.
use Rattle.std.specs.Prelude.{◌≡◌, ℕ, ◌<◌, ◌⊎◌, List, length, map, slice_index_or, Option, Some, None, nat_eq, IsTrue, All}
use Rattle.std.specs.Option.{option_map}
use Rattle.std.specs.List.{IsDistinct}
use Rattle.std.specs.Ordering.{nat_cmp}
use Rattle.std.specs.FinMap.{find}
use Rattle.model.specs.Graph.{Object, object_at, is_large}
use Rattle.model.specs.Live.{Live}
use Rattle.model.specs.Reached.{has}
use Rattle.model.specs.Destination.{dest}
use Rattle.model.specs.Collected.{Renaming, renamed, moved_to}
use Rattle.layout.specs.declared.place.Place.{Place}
use Rattle.layout.specs.Place.{place_word}
use Rattle.block_pool.specs.BlockValue.{BlockValue}
use Rattle.steps.specs.HeapValue.{HeapValue}
use Rattle.steps.specs.BlockObjects.{copies_of}
use Rattle.steps.specs.ReportValue.{renaming_of}
use Rattle.steps.specs.CollectedHeap.{IsIn}
use Rattle.steps.specs.CollectionValue.{CollectionValue, IsOpened, young_names}

-- what the workers bring back is the collection of this heap as it is now: `places` has the new place of each number
pub record IsSettled (heap : HeapValue) (collection : CollectionValue) (places : List (Option Place)) (blocks : List BlockValue) (won : List (ℕ × ℕ)) : Type 0 where
  pub opened : IsOpened heap collection.generation collection
  -- each number was won once
  pub once : IsDistinct nat_eq (map (λ e. e.0) won)
  pub numbers : All (λ e. e.0 < collection.cells) won
  pub places_count : length places ≡ collection.cells
  pub same_places : (number : ℕ) → option_map place_word (slice_index_or places number None) ≡ find nat_cmp number won
  -- the objects won are the live ones, and their places are as a renaming says
  pub renaming : Renaming heap.config.block_words heap.graph collection.generation (renaming_of (young_names heap.graph collection.generation) won)
  -- the blocks were free and stand once, and the new places are in them
  pub numbers_once : IsDistinct nat_eq (map (λ b. b.number) blocks)
  pub were_free : All (λ b. IsTrue (has heap.free b.number)) blocks
  pub block_words : All (λ b. b.words ≡ heap.config.block_words) blocks
  pub fresh : (name : ℕ) (o : Object) → Live heap.graph collection.generation name → object_at heap.graph name ≡ Some o → IsTrue (is_large heap.config.block_words o) ⊎ IsIn (map (λ b. b.number) blocks) (renamed (renaming_of (young_names heap.graph collection.generation) won) name)
  -- the blocks hold the copies of the small live objects, and nothing else
  pub copies : (name place : ℕ) (o : Object) → find nat_cmp name (renaming_of (young_names heap.graph collection.generation) won) ≡ Some place → object_at heap.graph name ≡ Some o → IsTrue (is_large heap.config.block_words o) ⊎ (find nat_cmp place (copies_of blocks) ≡ Some (moved_to (renaming_of (young_names heap.graph collection.generation) won) (dest heap.config.shape (o.generation, o.step)) o))
  pub no_others : (place : ℕ) (o : Object) → find nat_cmp place (copies_of blocks) ≡ Some o → (name : ℕ) × (find nat_cmp name (renaming_of (young_names heap.graph collection.generation) won) ≡ Some place)
