-- What the commands on a heap do.
use Rattle.std.specs.Prelude.{◌≡◌, ℕ, ◌+◌, ◌<◌, ◌≤◌, ◌⊎◌, Bool, false, List, length, take, drop, Option, Some, None, IsTrue, IsSome, IsSomeAnd, nat_lt, if◌then◌else◌, slice_get, slice_set, option_and_then}
use Rattle.std.specs.FinMap.{values, len, insert}
use Rattle.model.specs.Graph.{Graph, Object, object_at, root_at, with_object, with_root, with_pointer, fresh_object}
use Rattle.model.specs.Reached.{has}
use Rattle.model.specs.Room.{Room, room_after}
use Rattle.model.specs.Commands.{is_large_size}
use Rattle.model.specs.Census.{Census, census_of, points_to}
use Rattle.remembered_set.specs.Sets.{noted}
use Rattle.steps.specs.HeapValue.{HeapValue}
use Rattle.steps.specs.Remembered.{members_at}
use Rattle.heap_objects.specs.Objects.{wanted}

-- how many blocks a large object takes
abbrev pub wanted_blocks : HeapValue → ℕ → ℕ → ℕ
wanted_blocks heap p q = wanted heap.config p q

-- the room of a mutator's nursery after a small object of so many words, where it has room
abbrev pub room_for : HeapValue → ℕ → ℕ → Option Room
room_for heap mutator size = option_and_then (λ room. room_after heap.config.block_words room size) (slice_get heap.rooms mutator)

-- a new small object at a new name, and a new root to it
pub record AllocatesSmall (old : HeapValue) (mutator p q root : ℕ) (new : HeapValue) : Type 0 where
  pub name : ℕ
  pub room : Room
  pub small : is_large_size old.config (1 + p + q) ≡ false
  pub new_name : object_at old.graph name ≡ None
  pub new_root : root_at old.graph root ≡ None
  pub has_room : room_for old mutator (1 + p + q) ≡ Some room
  pub change : new ≡ record old { graph = with_root (with_object old.graph name (fresh_object p q)) root name; rooms = slice_set old.rooms mutator room }

-- a new large object at a new name, in the first free blocks, and a new root to it
pub record AllocatesLarge (old : HeapValue) (p q root : ℕ) (new : HeapValue) : Type 0 where
  pub name : ℕ
  pub large : IsTrue (is_large_size old.config (1 + p + q))
  pub enough : wanted_blocks old p q ≤ length old.free
  pub new_name : object_at old.graph name ≡ None
  pub new_root : root_at old.graph root ≡ None
  pub change : new ≡ record old {
    graph = with_root (with_object old.graph name (fresh_object p q)) root name;
    free = drop (wanted_blocks old p q) old.free;
    large_blocks = insert old.large_blocks name (take (wanted_blocks old p q) old.free);
  }

-- a new object at a new name, small or large by its size, and a new root to it
abbrev pub Allocates : HeapValue → (mutator p q root : ℕ) → HeapValue → Type 0
Allocates old mutator p q root new = AllocatesSmall old mutator p q root new ⊎ AllocatesLarge old p q root new

-- what a census of the heap shows
abbrev pub heap_census : HeapValue → Census
heap_census heap = census_of heap.config (object_at heap.graph) (values heap.graph.objects) (len heap.graph.roots)

-- the object that a root leads to
abbrev pub rooted_object : Graph → ℕ → Option Object
rooted_object graph root = option_and_then (object_at graph) (root_at graph root)

-- the root's object has a pointer i
abbrev pub HasPointer : Graph → ℕ → ℕ → Type 0
HasPointer graph root i = IsSomeAnd (rooted_object graph root) (λ o. i < length o.pointers)

-- the root's object has a plain word i
abbrev pub HasPlain : Graph → ℕ → ℕ → Type 0
HasPlain graph root i = IsSomeAnd (rooted_object graph root) (λ o. i < length o.plain)

-- what a pointer holds that is nil or leads where a root does
abbrev pub value_at : Graph → Option ℕ → Option ℕ
value_at graph None = None
value_at graph (Some root) = root_at graph root

-- nil, or a root that there is
abbrev pub IsValue : Graph → Option ℕ → Type 0
IsValue graph None = Unit {0}
IsValue graph (Some root) = IsSome (root_at graph root)

-- the object of a root was changed, and nothing else
pub record Changes (old : HeapValue) (root : ℕ) (change : Object → Object) (new : HeapValue) : Type 0 where
  pub name : ℕ
  pub object : Object
  pub root_is : root_at old.graph root ≡ Some name
  pub there : object_at old.graph name ≡ Some object
  pub changed : new ≡ record old { graph = with_object old.graph name (change object) }

-- the pointer would lead from this object to a younger one
abbrev pub leads_younger : Graph → Object → Option ℕ → Bool
leads_younger graph holder value = points_to (λ target. nat_lt target.generation holder.generation) (object_at graph) value

-- the remembered sets with the holder among its generation's, where its new pointer leads to a younger object
abbrev pub remembered_after : HeapValue → ℕ → Object → Option ℕ → List (List ℕ)
remembered_after heap name holder value = if leads_younger heap.graph holder value then noted heap.remembered holder.generation name else heap.remembered

-- pointer i of a root's object was stored, and the object noted where it has to be; nothing else changed
pub record Stores (old : HeapValue) (root i : ℕ) (value : Option ℕ) (new : HeapValue) : Type 0 where
  pub name : ℕ
  pub object : Object
  pub root_is : root_at old.graph root ≡ Some name
  pub there : object_at old.graph name ≡ Some object
  pub changed : new ≡ record old { graph = with_object old.graph name (with_pointer object i (value_at old.graph value)); remembered = remembered_after old name object (value_at old.graph value) }

-- a store of the value has to note the root's object: its new pointer leads to a younger one, and it is no member yet
pub record MustNote (heap : HeapValue) (root : ℕ) (value : Option ℕ) : Type 0 where
  pub name : ℕ
  pub object : Object
  pub root_is : root_at heap.graph root ≡ Some name
  pub there : object_at heap.graph name ≡ Some object
  pub younger : IsTrue (leads_younger heap.graph object (value_at heap.graph value))
  pub no_member : ¬ (IsTrue (has (members_at heap.remembered object.generation) name))

-- what pointer i of a root's object holds
abbrev pub pointer_of : Graph → ℕ → ℕ → Option (Option ℕ)
pointer_of graph root i = option_and_then (λ o. slice_get o.pointers i) (rooted_object graph root)

-- a new root to the object of that name
pub record AddsRoot (old : HeapValue) (name root : ℕ) (new : HeapValue) : Type 0 where
  pub new_root : root_at old.graph root ≡ None
  pub change : new ≡ record old { graph = with_root old.graph root name }

-- pointer i of a root's object is nil and nothing changed, or there is a new root to what it leads to
abbrev pub Loads : HeapValue → ℕ → ℕ → Option ℕ → HeapValue → Type 0
Loads old root i None new = (pointer_of old.graph root i ≡ Some None) × (new ≡ old)
Loads old root i (Some new_root) new = (name : ℕ) × (pointer_of old.graph root i ≡ Some (Some name)) × AddsRoot old name new_root new
