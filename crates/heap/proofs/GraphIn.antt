-- The graph of a heap, and that of its objects with no root.
use Rattle.std.proofs.Common.{ℕ, List, Option, sym, ◌∙◌}
use Rattle.std.specs.Ordering.{nat_cmp}
use Rattle.std.specs.FinMap.{get-empty}
use Rattle.model.specs.Graph.{IsClosed}
use Rattle.model.specs.Live.{IsYoung}
use Rattle.model.proofs.Options.{some_not_none}
use Rattle.layout.specs.declared.place.Place.{Place}
use Rattle.heap_objects.specs.Objects.{ObjectsValue, graph_in}
use Rattle.heap.specs.HeapView.{heap_of}

-- an object is young in the heap exactly where it is among the objects
pub young_in : (objects : ObjectsValue) (slots : List (Option Place)) (g name : ℕ) → IsYoung (heap_of objects slots).graph g name → IsYoung (graph_in objects) g name
young_in objects slots g name young = record { object = young.object; there = young.there; young = young.young }

pub young_of : (objects : ObjectsValue) (slots : List (Option Place)) (g name : ℕ) → IsYoung (graph_in objects) g name → IsYoung (heap_of objects slots).graph g name
young_of objects slots g name young = record { object = young.object; there = young.there; young = young.young }

-- without its roots too each pointer leads to an object
pub closed_in : (objects : ObjectsValue) (slots : List (Option Place)) → IsClosed (heap_of objects slots).graph → IsClosed (graph_in objects)
closed_in objects slots closed = record {
  fields = closed.fields;
  roots = λ root target is. absurd (some_not_none (sym is ∙ get-empty nat_cmp root));
}
