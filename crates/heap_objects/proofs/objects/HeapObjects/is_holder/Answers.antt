use Rattle.heap_objects.specs.Objects.{graph_in, objects_of}
use Rattle.heap_objects.proofs.ObjectReads.{shows_graph}
use Rattle.heap_objects.proofs.objects.HeapObjects.is_holder.Goals as goal

pub returns : goal.returns
returns g c =
    let closed = rw (← c.self.view_is) at c.requires in
    rw (← c.self.view_is) (c.is_holder.ensures (graph_in (objects_of c.self.inside.space c.self.inside.large)) (shows_graph c.self.inside.space c.self.inside.large c.table.result.now c.self.invariant c.table.ensures.objects c.table.ensures.blocks closed))
