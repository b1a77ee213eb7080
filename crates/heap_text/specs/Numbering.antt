-- Objects numbered in the order in which they are reached.
use Rattle.std.specs.Prelude.{◌≡◌, ℕ, ◌+◌, ◌<◌, List, [], ◌∷◌, ◌++◌, length, slice_index, slice_index_or, Option, Some, None, IsSome, IsTrue, nat_eq, position, if◌then◌else◌, All}
use Rattle.std.specs.Option.{option_map}
use Rattle.model.specs.Graph.{Graph, object_at, IsClosed}
use Rattle.model.specs.Live.{IsYoung}
use Rattle.model.specs.Reached.{has, fresh_of}
use Rattle.model.specs.Text.{targets_at}
use Rattle.layout.specs.declared.place.Place.{Place}
use Rattle.layout.specs.Place.{pointer_word}
use Rattle.heap.specs.HeapValue.{HeapValue}
use Rattle.heap.specs.NamesArePlaces.{NamesArePlaces}
use Rattle.heap.specs.CollectionValue.{CollectionValue, IsOpened, young_names}

-- a collection that was opened on this heap has all of its objects
pub record HasAllObjects (heap : HeapValue) (all : CollectionValue) : Type 0 where
  pub opened : IsOpened heap all.generation all
  pub closed : IsClosed heap.graph
  pub young : (name : ℕ) → IsSome (object_at heap.graph name) → IsYoung heap.graph all.generation name
  pub places : NamesArePlaces heap.graph

-- the number of a name in an order, from 1 on
abbrev pub number_in : List ℕ → ℕ → Option ℕ
number_in order name = option_map (λ i. i + 1) (position (nat_eq name) order)

-- each object has the number of its name in this order
pub record IsNumbering (heap : HeapValue) (g : ℕ) (numbers : List (Option ℕ)) (order : List ℕ) : Type 0 where
  pub count : length numbers ≡ length (young_names heap.graph g)
  pub numbers_are : (k : ℕ) → k < length numbers → slice_index_or numbers k None ≡ number_in order (slice_index (young_names heap.graph g) k)
  pub there : All (λ name. IsSome (object_at heap.graph name)) order

-- an order with one name more, where it lacks that
abbrev pub visited : List ℕ → ℕ → List ℕ
visited order name = if has order name then order else order ++ name ∷ []

-- an order with those of the names that it lacks, each where it comes first
abbrev pub visited_all : List ℕ → List ℕ → List ℕ
visited_all order names = order ++ fresh_of order names

-- nil, or a pointer to an object
abbrev pub LeadsInto : Graph → Option ℕ → Type 0
LeadsInto graph None = Unit {0}
LeadsInto graph (Some target) = IsSome (object_at graph target)

-- the word of a pointer
abbrev pub IsPointerWord : ℕ → Type 0
IsPointerWord word = (pointer : Option Place) × (pointer_word pointer ≡ word)

-- nil, or a pointer to what has a number
abbrev pub LeadsToNumbered : List ℕ → Option ℕ → Type 0
LeadsToNumbered order None = Unit {0}
LeadsToNumbered order (Some target) = IsTrue (has order target)

-- what members of the order point to is in the order
abbrev pub IsClosedOrder : Graph → List ℕ → Type 0
IsClosedOrder graph order = (name target : ℕ) → IsTrue (has order name) → IsTrue (has (targets_at (object_at graph) name) target) → IsTrue (has order target)
