-- What a commit writes into roots and into pointers of older objects.
use Rattle.std.specs.Prelude.{◌≡◌, ℕ, List, [], ◌∷◌, Option, Some, None, slice_index, slice_index_or, nat_eq, if◌then◌else◌}
use Rattle.model.specs.Graph.{Object, with_pointer}
use Rattle.model.specs.Live.{IsYoung}
use Rattle.layout.specs.declared.place.Place.{Place}
use Rattle.layout.specs.Place.{place_word}
use Rattle.steps.specs.CollectionValue.{SlotValue, root_slot, field_slot, young_names}
use Rattle.heap_objects.specs.Objects.{ObjectsValue, graph_in}
use Rattle.heap.specs.declared.heap_commit.moves.RenamedField.{RenamedField}

-- f takes the name of each object to where it stands after the collection: an object with a new place to it, and an older
-- one to itself
pub record Moves (objects : ObjectsValue) (g : ℕ) (places : List (Option Place)) (f : ℕ → ℕ) : Type 0 where
  pub young : (number : ℕ) (place : Place) → slice_index_or places number None ≡ Some place → f (slice_index (young_names (graph_in objects) g) number) ≡ place_word place
  pub older : (name : ℕ) → (IsYoung (graph_in objects) g name → ⊥) → f name ≡ name

-- a pointer that is written: the object's name, the field, and what it then leads to
abbrev pub field_write : RenamedField → ℕ × (ℕ × ℕ)
field_write w = (place_word w.holder, (w.field, place_word w.place))

-- each root with what it then leads to, where f moves the targets of slots
abbrev pub roots_by : (ℕ → ℕ) → List SlotValue → List (ℕ × ℕ)
roots_by f [] = []
roots_by f (root_slot root target ∷ slots) = (root, f target) ∷ roots_by f slots
roots_by f (field_slot holder field target ∷ slots) = roots_by f slots

-- what is written where f moves the targets of the old slots
abbrev pub writes_by : (ℕ → ℕ) → List SlotValue → List (ℕ × (ℕ × ℕ))
writes_by f [] = []
writes_by f (root_slot root target ∷ slots) = writes_by f slots
writes_by f (field_slot holder field target ∷ slots) = (holder, (field, f target)) ∷ writes_by f slots

-- the object of that name after these were written, one after the other
abbrev pub with_writes : List (ℕ × (ℕ × ℕ)) → ℕ → Object → Object
with_writes [] name o = o
with_writes (w ∷ ws) name o = with_writes ws name (if nat_eq w.0 name then with_pointer o w.1.0 (Some w.1.1) else o)
