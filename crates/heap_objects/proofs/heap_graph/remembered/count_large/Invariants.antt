use Rattle.std.proofs.Common.{◌≡◌, ◌≤◌, ◌-◌}
use Rattle.model.specs.Graph.{Graph, object_at}
use Rattle.model.specs.Census.{points_younger}
use Rattle.heap_objects.specs.HeapGraph.{IsHeapGraph}
use Rattle.heap_objects.proofs.LargeCounts.{count_below}
use Rattle.heap_objects.proofs.heap_graph.remembered.count_large.Given as goal

-- those of the numbers so far
abbrev pub invariant-loop-number : goal.invariant-loop-number
invariant-loop-number g l = record {
  few : l.count ≤ l.from;
  in_range : l.from ≤ 65535;
  value : (graph : Graph) → IsHeapGraph graph l.table l.large → l.count ≡ count_below (points_younger (object_at graph)) l.large.slots l.from;
}

-- each turn goes past a number
abbrev pub decreases-loop-number : goal.decreases-loop-number
decreases-loop-number g l = 65535 - l.from
