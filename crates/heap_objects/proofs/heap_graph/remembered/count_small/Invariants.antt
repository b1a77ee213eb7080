use Rattle.std.proofs.Common.{◌≡◌, ◌≤◌, ◌*◌, map, take}
use Rattle.std.specs.Prelude.{count_by}
use Rattle.model.specs.Graph.{Graph, object_at}
use Rattle.model.specs.Census.{points_younger}
use Rattle.nursery.specs.Table.{table_objects}
use Rattle.heap_objects.specs.HeapGraph.{IsHeapGraph}
use Rattle.heap_objects.proofs.heap_graph.remembered.count_small.Given as goal

abbrev pub invariant-loop-number : goal.invariant-loop-number
invariant-loop-number g l = record {
  few : l.count ≤ l.number * 512;
  value : (graph : Graph) → IsHeapGraph graph l.table l.large → l.count ≡ count_by (points_younger (object_at graph)) (map (λ e. e.1) (table_objects 0 (take l.number l.table)));
}
