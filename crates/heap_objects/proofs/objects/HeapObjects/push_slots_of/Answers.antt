use Rattle.std.proofs.Common.{◌≡◌, ◌++◌, map}
use Rattle.model.specs.Graph.{Graph}
use Rattle.steps.specs.CollectionValue.{field_slot_of}
use Rattle.steps.specs.SlotView.{slot_value}
use Rattle.layout.specs.Place.{place_word}
use Rattle.heap_objects.specs.HeapGraph.{IsHeapGraph, slots_at}
use Rattle.heap_objects.specs.Objects.{graph_in, objects_of}
use Rattle.heap_objects.proofs.ObjectReads.{shows_graph, on_ok}
use Rattle.heap_objects.proofs.objects.HeapObjects.push_slots_of.Goals as goal

pub returns : goal.returns
returns g c =
    let closed = rw (← c.self.view_is) at c.requires in
    let graph = graph_in (objects_of c.self.inside.space c.self.inside.large) in
    let shows = shows_graph c.self.inside.space c.self.inside.large c.table.result.now c.self.invariant c.table.ensures.objects c.table.ensures.blocks closed in
    let here : ((graph : Graph) → IsHeapGraph graph c.table.result.now c.self.inside.large → map slot_value c.push_slots_of.new.slots.items ≡ map slot_value c.args.slots.now.items ++ map field_slot_of (slots_at graph c.args.generation c.args.holder_generation (place_word c.args.place))) → map slot_value c.push_slots_of.new.slots.items ≡ map slot_value c.args.slots.now.items ++ map field_slot_of (slots_at graph c.args.generation c.args.holder_generation (place_word c.args.place)) = λ each. each graph shows in
    rw (← c.self.view_is) (on_ok c.push_slots_of.result c.push_slots_of.ensures here)
