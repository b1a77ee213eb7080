-- The lines of a heap whose roots have names.
use Rattle.std.specs.Prelude.{ℕ, List, map, unwrap_or}
use Rattle.std.specs.FinMap.{len}
use Rattle.model.specs.Graph.{Graph, object_at, root_at}
use Rattle.model.specs.Text.{graph_text}
use Rattle.heap_text.specs.declared.listing.Name.{Name}

-- a name and the number of its root
abbrev pub name_value : Name → List ℕ × ℕ
name_value name = (name.text.now, name.root.number)

-- a name with what its root leads to
abbrev pub object_of_name : Graph → List ℕ × ℕ → List ℕ × ℕ
object_of_name graph e = (e.0, unwrap_or (root_at graph e.1) 0)

-- each name with what its root leads to
abbrev pub named_objects : Graph → List (List ℕ × ℕ) → List (List ℕ × ℕ)
named_objects graph names = map {B = List ℕ × ℕ} (λ e. (e.0, unwrap_or (root_at graph e.1) 0)) names

-- the names in their order with the numbers of their objects, and then what is reached from them
abbrev pub heap_lines : Graph → List (List ℕ × ℕ) → List ℕ
heap_lines graph names = graph_text (object_at graph) (len graph.objects) (named_objects graph names)
