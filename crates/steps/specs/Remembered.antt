-- What the remembered sets of a heap hold: objects with a pointer to a younger generation.
use Rattle.std.specs.Prelude.{ℕ, ◌<◌, ◌↔◌, Bool, false, List, [], length, Option, Some, None, IsTrue, nat_eq, if◌then◌else◌, slice_index_or, option_and_then}
use Rattle.std.specs.Option.{option_map_or}
use Rattle.std.specs.List.{IsDistinct}
use Rattle.model.specs.Graph.{Graph, Object, object_at}
use Rattle.model.specs.Census.{points_younger}
use Rattle.model.specs.Reached.{has}

-- the members of the set of a generation
abbrev pub members_at : List (List ℕ) → ℕ → List ℕ
members_at sets generation = slice_index_or sets generation []

-- the object of that name where it is of that generation
abbrev pub object_of_generation : Graph → ℕ → ℕ → Option Object
object_of_generation graph generation name = option_and_then (λ o. if nat_eq o.generation generation then Some o else None) (object_at graph name)

-- the object of that name is of that generation and has a pointer to a younger one
abbrev pub is_holder : Graph → ℕ → ℕ → Bool
is_holder graph generation name = option_map_or (points_younger (object_at graph)) (object_of_generation graph generation name) false

-- each object with a pointer to a younger generation is a member of the set of its own
abbrev pub CoversYounger : Graph → List (List ℕ) → Type 0
CoversYounger graph sets = (generation name : ℕ) → IsTrue (is_holder graph generation name) → IsTrue (has (members_at sets generation) name)

-- the members are the objects of this generation that have a pointer to a younger one
pub record IsRemembered (graph : Graph) (generation : ℕ) (members : List ℕ) : Type 0 where
  pub once : IsDistinct nat_eq members
  pub exact : (name : ℕ) → IsTrue (has members name) ↔ IsTrue (is_holder graph generation name)

-- each set is that of the graph
abbrev pub RemembersExactly : Graph → List (List ℕ) → Type 0
RemembersExactly graph sets = (generation : ℕ) → generation < length sets → IsRemembered graph generation (members_at sets generation)
