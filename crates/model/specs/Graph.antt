-- A heap seen as a graph: objects by name, and roots by their number. A name is a number, as the word of a place is.
use Rattle.std.specs.Prelude.{◌≡◌, ℕ, ◌+◌, ◌/◌, Bool, List, length, Option, Some, None, nat_lt, slice_get, slice_set, option_and_then, replicate}
use Rattle.std.specs.Ordering.{nat_cmp}
use Rattle.std.specs.FinMap.{FinMap, get, insert, remove, empty}

-- an object: its pointers, each nil or a name, its plain words, and where it stands
pub record Object : Type 0 where
  pub pointers : List (Option ℕ)
  pub plain : List ℕ
  pub generation : ℕ
  pub step : ℕ

-- objects by name, and roots by their number
pub record Graph : Type 0 where
  pub objects : FinMap nat_cmp Object
  pub roots : FinMap nat_cmp ℕ

-- no object and no root
abbrev pub empty_graph : Graph
empty_graph = record { objects = empty; roots = empty }

-- the object of a name
abbrev pub object_at : Graph → ℕ → Option Object
object_at graph name = get graph.objects name

-- what a root leads to
abbrev pub root_at : Graph → ℕ → Option ℕ
root_at graph root = get graph.roots root

-- header, pointers and plain words
abbrev pub size_of : Object → ℕ
size_of object = 1 + length object.pointers + length object.plain

-- large where it takes more than a quarter of a block of so many words
abbrev pub is_large : ℕ → Object → Bool
is_large block_words object = nat_lt (block_words / 4) (size_of object)

-- what pointer i of the object with that name holds
abbrev pub field_at : Graph → ℕ → ℕ → Option (Option ℕ)
field_at graph name i = option_and_then (λ object. slice_get object.pointers i) (object_at graph name)

-- a new object, with nil pointers and zero words
abbrev pub fresh_object : ℕ → ℕ → Object
fresh_object p q = record { pointers = replicate p None; plain = replicate q 0; generation = 0; step = 0 }

-- the object with pointer i changed
abbrev pub with_pointer : Object → ℕ → Option ℕ → Object
with_pointer object i target = record object { pointers = slice_set object.pointers i target }

-- the graph with the object of that name changed or added
abbrev pub with_object : Graph → ℕ → Object → Graph
with_object graph name object = record graph { objects = insert graph.objects name object }

-- the graph with that root leading to the name
abbrev pub with_root : Graph → ℕ → ℕ → Graph
with_root graph root name = record graph { roots = insert graph.roots root name }

-- the graph without that root
abbrev pub without_root : Graph → ℕ → Graph
without_root graph root = record graph { roots = remove graph.roots root }

-- each pointer and root leads to an object
pub record IsClosed (graph : Graph) : Type 0 where
  pub fields : (name i target : ℕ) → field_at graph name i ≡ Some (Some target) → (o : Object) × (object_at graph target ≡ Some o)
  pub roots : (root target : ℕ) → root_at graph root ≡ Some target → (o : Object) × (object_at graph target ≡ Some o)
