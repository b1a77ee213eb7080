use Rattle.std.proofs.Common.{◌≡◌, ◌≤◌, ℕ, Some, map, take}
use Rattle.std.specs.Prelude.{count_by}
use Rattle.model.specs.Graph.{Graph, object_at}
use Rattle.model.specs.Census.{points_younger}
use Rattle.steps.specs.BlockObjects.{block_objects}
use Rattle.nursery.specs.Table.{slot_at}
use Rattle.heap_objects.specs.HeapGraph.{IsHeapGraph}
use Rattle.heap_objects.proofs.heap_graph.remembered.count_block.Given as goal

abbrev pub invariant-loop-k : goal.invariant-loop-k
invariant-loop-k g l = record {
  few : l.count ≤ l.k;
  value : (graph : Graph) (number : ℕ) → IsHeapGraph graph l.table l.large → slot_at l.table number ≡ Some l.block → l.count ≡ count_by (points_younger (object_at graph)) (map (λ e. e.1) (take l.k (block_objects number l.block)));
}
