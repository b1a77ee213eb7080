-- A heap that calls made, with its named roots, stands for a store: the same objects at places of the heap's own.
use Rattle.std.specs.Prelude.{◌≡◌, ℕ, List, map, length, true, Some, None, IsTrue}
use Rattle.std.specs.Option.{option_map}
use Rattle.std.specs.Ordering.{nat_cmp}
use Rattle.std.specs.Cmp.Lexicographic.{slice_cmp}
use Rattle.std.specs.FinMap.{len}
use Rattle.std.specs.FinMap.Entries.{is_sorted}
use Rattle.model.specs.Graph as graph
use Rattle.model.specs.Graph.{Graph, Object, root_at}
use Rattle.model.specs.Config.{Config}
use Rattle.model.specs.Reached.{has}
use Rattle.model.specs.Store.{Store, object_at, targets}
use Rattle.heap.specs.HeapValue.{HeapValue}
use Rattle.trace_session.specs.NamesView.{named}
use Rattle.trace_session.specs.Made.{MadeByCalls}

abbrev pub renamed_object : (ℕ → ℕ) → Object → Object
renamed_object place o = record o { pointers = map (option_map place) o.pointers }

-- the objects of the store, each at its place, and no others; each pointer leads to an object
pub record IsPlaced (store : Store) (place : ℕ → ℕ) (heap : Graph) : Type 0 where
  pub objects : (name : ℕ) (o : Object) → object_at store name ≡ Some o → graph.object_at heap (place name) ≡ Some (renamed_object place o)
  pub no_others : (at : ℕ) (o : Object) → graph.object_at heap at ≡ Some o → (name : ℕ) × ((p : Object) × ((object_at store name ≡ Some p) × (place name ≡ at)))
  pub one_to_one : (a b : ℕ) (o p : Object) → object_at store a ≡ Some o → object_at store b ≡ Some p → place a ≡ place b → a ≡ b
  pub closed : (name target : ℕ) (o : Object) → object_at store name ≡ Some o → has (targets o) target ≡ true → (p : Object) × (object_at store target ≡ Some p)

-- the trace name leads to an object of the store, and its root to the object's place
pub record LeadsTo (store : Store) (place : ℕ → ℕ) (heap : Graph) (text : List ℕ) (root : ℕ) : Type 0 where
  pub name : ℕ
  pub object : Object
  pub named_is : named store.names text ≡ Some name
  pub there : object_at store name ≡ Some object
  pub root_is : root_at heap root ≡ Some (place name)

-- each trace name has a root of its own, and the heap has no other roots
pub record IsNamed (store : Store) (place : ℕ → ℕ) (heap : Graph) (names : List (List ℕ × ℕ)) : Type 0 where
  pub leads : (text : List ℕ) (root : ℕ) → named names text ≡ Some root → LeadsTo store place heap text root
  pub free : (text : List ℕ) → named names text ≡ None → named store.names text ≡ None
  pub apart : (s t : List ℕ) (root : ℕ) → named names s ≡ Some root → named names t ≡ Some root → s ≡ t
  pub no_others : (root target : ℕ) → root_at heap root ≡ Some target → (text : List ℕ) × (named names text ≡ Some root)
  pub sorted : IsTrue (is_sorted (slice_cmp nat_cmp) store.names)
  pub count : len heap.roots ≡ length store.names

pub record StandsFor (heap : HeapValue) (names : List (List ℕ × ℕ)) (config : Config) (store : Store) : Type 0 where
  pub made : MadeByCalls heap
  pub config_is : heap.config ≡ config
  pub rooms_are : heap.rooms ≡ store.rooms
  pub place : ℕ → ℕ
  pub placed : IsPlaced store place heap.graph
  pub names_are : IsNamed store place heap.graph names
