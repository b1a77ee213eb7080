-- What a collection asks of the objects of a heap, and what it leaves of them.
use Rattle.std.specs.Prelude.{◌≡◌, ℕ, ◌<◌, ◌≤◌, ◌⊎◌, ◌↔◌, List, [], map, length, slice_index, slice_index_or, Option, Some, None, IsTrue, IsSome, true, nat_eq, nat_lt, if◌then◌else◌, All}
use Rattle.std.specs.List.{IsDistinct}
use Rattle.std.specs.Ordering.{nat_cmp}
use Rattle.std.specs.FinMap.{get, find}
use Rattle.model.specs.Graph.{Object, is_large}
use Rattle.model.specs.Destination.{Shape, dest}
use Rattle.model.specs.Reached.{has}
use Rattle.model.specs.Store.{full_rooms}
use Rattle.layout.specs.Place.{large_word}
use Rattle.layout.specs.declared.place.Place.{Place}
use Rattle.block_pool.specs.BlockValue.{BlockValue}
use Rattle.steps.specs.BlockObjects.{copies_of}
use Rattle.steps.specs.CollectionValue.{rank_below, young_names}
use Rattle.nursery.specs.Table.{IsHeapBlock}
use Rattle.heap_objects.specs.Objects.{ObjectsValue, graph_in}

-- the name's number among those of generation at most g
pub record IsNumbered (objects : ObjectsValue) (g name number : ℕ) : Type 0 where
  pub in_range : number < length (young_names (graph_in objects) g)
  pub is : slice_index (young_names (graph_in objects) g) number ≡ name

-- the blocks may take the place of what is collected
pub record CanReplace (objects : ObjectsValue) (blocks : List BlockValue) : Type 0 where
  pub once : IsDistinct nat_eq (map (λ b. b.number) blocks)
  pub were_free : All (λ b. has objects.free b.number ≡ true) blocks
  pub sound : All (λ b. (b.objects ≡ []) ⊎ IsHeapBlock objects.config b.number b) blocks

-- the new place of the object of that name, where `places` has that of each number
abbrev pub new_place : ObjectsValue → ℕ → List (Option Place) → ℕ → Option Place
new_place objects g places name = slice_index_or places (rank_below name (young_names (graph_in objects) g)) None

-- the object stays where it stands: it is older than g, or it is large and has a new place
abbrev pub Stays : ObjectsValue → ℕ → List (Option Place) → ℕ → Object → Type 0
Stays objects g places name o = (g < o.generation) ⊎ (IsTrue (is_large objects.config.block_words o) × IsSome (new_place objects g places name))

abbrev pub at_step : Object → ℕ × ℕ → Object
at_step o at = record o { generation = at.0; step = at.1 }

-- an object that stays: an older one as it was, another at its destination
abbrev pub aged : Shape → ℕ → Object → Object
aged shape g o = if nat_lt g o.generation then o else at_step o (dest shape (o.generation, o.step))

-- an object of that name was there and stays
pub record HasStayed (old : ObjectsValue) (g : ℕ) (places : List (Option Place)) (name : ℕ) (o : Object) : Type 0 where
  pub was : Object
  pub there : get old.objects name ≡ Some was
  pub stays : Stays old g places name was
  pub is : o ≡ aged old.config.shape g was

-- the blocks took the place of all small objects of generation at most g, the large ones that have a new place stand at
-- their destinations, and the others are gone; each nursery is empty
pub record IsReplaced (old : ObjectsValue) (g : ℕ) (blocks : List BlockValue) (places : List (Option Place)) (new : ObjectsValue) : Type 0 where
  pub config : new.config ≡ old.config
  pub rooms : new.rooms ≡ full_rooms old.config
  pub copies : (name : ℕ) (o : Object) → find nat_cmp name (copies_of blocks) ≡ Some o → get new.objects name ≡ Some o
  pub stayed : (name : ℕ) (o : Object) → get old.objects name ≡ Some o → Stays old g places name o → get new.objects name ≡ Some (aged old.config.shape g o)
  pub no_others : (name : ℕ) (o : Object) → get new.objects name ≡ Some o → (find nat_cmp name (copies_of blocks) ≡ Some o) ⊎ HasStayed old g places name o
  -- the blocks of the large objects that stay are theirs
  pub large_blocks : (name : ℕ) (blocks : List ℕ) → (get new.large_blocks name ≡ Some blocks) ↔ ((get old.large_blocks name ≡ Some blocks) × ((o : Object) × (get old.objects name ≡ Some o) × Stays old g places name o))

-- no large object has a number from this one on
abbrev pub NoLargeFrom : ObjectsValue → ℕ → Type 0
NoLargeFrom objects from = (n : ℕ) → from ≤ n → get objects.objects (large_word n) ≡ None

-- from this number on it is the lowest that a large object has
pub record IsNextLarge (objects : ObjectsValue) (from number : ℕ) : Type 0 where
  pub from_on : from ≤ number
  pub in_range : number < 65535
  pub there : IsSome (get objects.objects (large_word number))
  pub lowest : (n : ℕ) → from ≤ n → n < number → get objects.objects (large_word n) ≡ None
