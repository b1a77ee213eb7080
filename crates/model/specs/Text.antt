-- The lines that a trace's commands write.
use Rattle.std.specs.Prelude.{ℕ, ◌+◌, List, [], ◌++◌, length, map, flat_map, Option, Some, None, nat_eq, codes, decimal, position, unwrap_or}
use Rattle.std.specs.List.{join_with_byte}
use Rattle.std.specs.Option.{option_map_or}
use Rattle.model.specs.Graph.{Object}
use Rattle.model.specs.Reached.{reached_list}
use Rattle.model.specs.Census.{Census, StepCount}
use Rattle.model.specs.Store.{Store, object_at, targets}

-- a collection's line: `collected` or `auto`, the generation, objects kept and freed
abbrev pub collection_line : List ℕ → (g kept freed : ℕ) → List ℕ
collection_line word g kept freed = word ++ codes " " ++ decimal g ++ codes ": " ++ decimal kept ++ codes " kept, " ++ decimal freed ++ codes " freed\n"

abbrev pub step_line : StepCount → List ℕ
step_line c = codes "gen " ++ decimal c.generation ++ codes " step " ++ decimal c.step ++ codes ": " ++ decimal c.objects ++ codes " objects " ++ decimal c.words ++ codes " words\n"

abbrev pub census_text : Census → List ℕ
census_text c =
    flat_map step_line c.steps
    ++ (codes "large: " ++ decimal c.large_objects ++ codes " objects " ++ decimal c.large_words ++ codes " words\n")
    ++ (codes "roots: " ++ decimal c.roots ++ codes "\n")
    ++ (codes "remembered: " ++ decimal c.remembered ++ codes "\n")

-- what the object of a name points to, in order
abbrev pub targets_at : (ℕ → Option Object) → ℕ → List ℕ
targets_at object name = option_map_or targets (object name) []

-- the named objects in the order of their names, and what they lead to; `object` gives the object of a name, and there
-- are at most `count` of them
abbrev pub numbered : (ℕ → Option Object) → ℕ → List (List ℕ × ℕ) → List ℕ
numbered object count names = reached_list (targets_at object) count (map (λ e. e.1) names)

abbrev pub number_of : List ℕ → ℕ → ℕ
number_of names name = unwrap_or (position (nat_eq name) names) 0 + 1

abbrev pub reference : List ℕ → ℕ → List ℕ
reference names name = codes "#" ++ decimal (number_of names name)

abbrev pub pointer_text : List ℕ → Option ℕ → List ℕ
pointer_text names None = codes "nil"
pointer_text names (Some name) = reference names name

abbrev pub root_line : List ℕ → List ℕ × ℕ → List ℕ
root_line names (text, name) = codes "root " ++ text ++ codes " " ++ reference names name ++ codes "\n"

abbrev pub object_line : List ℕ → ℕ → Option Object → List ℕ
object_line names name None = []
object_line names name (Some o) =
    reference names name ++ codes " gen " ++ decimal o.generation ++ codes " step " ++ decimal o.step
    ++ codes " ptrs [" ++ join_with_byte 32 (map (pointer_text names) o.pointers) ++ codes "] words [" ++ join_with_byte 32 (map decimal o.plain) ++ codes "]\n"

-- the roots with their numbers, and then the objects by their numbers
abbrev pub graph_text : (ℕ → Option Object) → ℕ → List (List ℕ × ℕ) → List ℕ
graph_text object count names =
    flat_map (root_line (numbered object count names)) names
    ++ flat_map (λ name. object_line (numbered object count names) name (object name)) (numbered object count names)

-- of a store, whose trace names rise in byte order
abbrev pub heap_text : Store → List ℕ
heap_text store = graph_text (object_at store) (length store.objects) store.names
