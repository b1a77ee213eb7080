-- What a collection asks of the blocks of a heap, and what it leaves of them.
use Rattle.std.specs.Prelude.{◌≡◌, ℕ, ◌<◌, ◌≤◌, ◌⊎◌, ◌↔◌, List, [], map, length, slice_index, Some, None, true, nat_eq, All}
use Rattle.std.specs.List.{IsDistinct}
use Rattle.std.specs.Ordering.{nat_cmp}
use Rattle.std.specs.FinMap.{get, find}
use Rattle.model.specs.Graph.{Object}
use Rattle.model.specs.Live.{IsYoung}
use Rattle.model.specs.Reached.{has}
use Rattle.model.specs.Store.{full_rooms}
use Rattle.layout.specs.Place.{small_word}
use Rattle.block_pool.specs.BlockValue.{BlockValue}
use Rattle.steps.specs.HeapValue.{nursery_count}
use Rattle.steps.specs.BlockObjects.{copies_of}
use Rattle.steps.specs.CollectionValue.{rank_below, young_names}
use Rattle.nursery.specs.Table.{IsHeapBlock}
use Rattle.heap_objects.specs.Space.{SpaceValue, graph_in}

-- the number of the first object of generation at most g of each block
pub record AreBases (space : SpaceValue) (g : ℕ) (bases : List ℕ) : Type 0 where
  pub each : (block : ℕ) → block < length bases → slice_index bases block ≡ rank_below (small_word block 0) (young_names (graph_in space) g)
  pub covers : (block offset : ℕ) → offset < 65536 → IsYoung (graph_in space) g (small_word block offset) → block < length bases

-- the name's number among those of generation at most g
pub record IsNumbered (space : SpaceValue) (g name number : ℕ) : Type 0 where
  pub in_range : number < length (young_names (graph_in space) g)
  pub is : slice_index (young_names (graph_in space) g) number ≡ name

-- the blocks may take the place of what is collected
pub record CanReplace (space : SpaceValue) (blocks : List BlockValue) : Type 0 where
  pub once : IsDistinct nat_eq (map (λ b. b.number) blocks)
  pub were_free : All (λ b. has space.free b.number ≡ true) blocks
  pub sound : All (λ b. (b.objects ≡ []) ⊎ IsHeapBlock space.config b.number b) blocks

-- an object of generation at most g stands in this block of the pool
pub record StandsYoung (space : SpaceValue) (g block : ℕ) : Type 0 where
  pub in_pool : nursery_count space.config ≤ block
  pub offset : ℕ
  pub object : Object
  pub in_range : offset < 512
  pub there : get space.objects (small_word block offset) ≡ Some object
  pub young : object.generation ≤ g

-- no object stands in the block
abbrev pub HoldsNone : SpaceValue → ℕ → Type 0
HoldsNone space block = (offset : ℕ) → offset < 512 → get space.objects (small_word block offset) ≡ None

-- the blocks took the place of all objects of generation at most g; each nursery is empty
pub record IsReplaced (old : SpaceValue) (g : ℕ) (blocks : List BlockValue) (new : SpaceValue) : Type 0 where
  pub config : new.config ≡ old.config
  pub rooms : new.rooms ≡ full_rooms old.config
  pub copies : (name : ℕ) (o : Object) → find nat_cmp name (copies_of blocks) ≡ Some o → get new.objects name ≡ Some o
  pub older : (name : ℕ) (o : Object) → get old.objects name ≡ Some o → g < o.generation → get new.objects name ≡ Some o
  -- the blocks that were free, and those in which such an object stood, are free, but for those in which a copy stands now
  pub free : (block : ℕ) → (has new.free block ≡ true) ↔ (((has old.free block ≡ true) ⊎ StandsYoung old g block) × HoldsNone new block)
  pub no_others : (name : ℕ) (o : Object) → get new.objects name ≡ Some o → (find nat_cmp name (copies_of blocks) ≡ Some o) ⊎ ((get old.objects name ≡ Some o) × (g < o.generation))
