use Rattle.std.proofs.Common.{◌≡◌, false, map, take}
use Rattle.std.specs.Prelude.{All, nat_lt}
use Rattle.std.specs.List.{list_any}
use Rattle.model.specs.Graph.{Graph, object_at}
use Rattle.model.specs.Census.{points_to}
use Rattle.steps.specs.Words.{target_of_word}
use Rattle.heap_objects.specs.HeapGraph.{IsHeapGraph, IsClosedWord}
use Rattle.heap_objects.proofs.heap_graph.remembered.points_below.Given as goal

-- none so far
abbrev pub invariant-loop-word : goal.invariant-loop-word
invariant-loop-word g l = (graph : Graph) → IsHeapGraph graph l.table l.large → All (IsClosedWord graph) l.pointers → list_any (points_to (λ target. nat_lt target.generation l.generation) (object_at graph)) (map target_of_word (take l.word-index l.pointers)) ≡ false
