-- A collection that is opened on a heap.
use Rattle.std.proofs.Common.{◌≡◌, ℕ, ◌<◌, List, map, length, Option}
use Rattle.std.specs.Prelude.{◌++◌}
use Rattle.std.specs.FinMap.{entries}
use Rattle.model.specs.OldSlots.{old_slots}
use Rattle.layout.specs.declared.place.Place.{Place}
use Rattle.heap_objects.specs.Objects.{ObjectsValue, graph_in}
use Rattle.steps.specs.CollectionValue.{CollectionValue, IsNumbering, IsOpened, young_names, root_slot, field_slot_of}
use Rattle.heap.specs.HeapView.{heap_with}
use Rattle.heap.specs.Roots.{roots_map}
use Rattle.heap.proofs.WithSets.{numbering_of}

pub opened_is : (objects : ObjectsValue) (slots : List (Option Place)) (sets : List (List ℕ)) (g : ℕ) (collection : CollectionValue) → g < objects.config.shape.generations → collection.generation ≡ g
    → collection.slots ≡ map (λ e. root_slot e.0 e.1) (entries (roots_map slots)) ++ map field_slot_of (old_slots (graph_in objects) objects.config.shape.generations g)
    → collection.free ≡ objects.free → IsNumbering (graph_in objects) g collection.numbering → collection.cells ≡ length (young_names (graph_in objects) g)
    → IsOpened (heap_with objects slots sets) g collection
opened_is objects slots sets g collection in_range generation slots_are free numbering cells = record {
  generation = generation;
  in_range = in_range;
  slots = slots_are;
  free = free;
  numbering = numbering_of objects slots sets g collection.numbering numbering;
  cells = cells;
}
