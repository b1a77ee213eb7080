use Rattle.heap_objects.proofs.Finding.{begins_there, none_there, shown}
use Rattle.heap_objects.proofs.heap_space.space.Space.object_there.Goals as goal

pub unreachable-requires : goal.unreachable-requires
unreachable-requires g c =
    let there = rw (← c.self.view_is, c.in_default.is) at c.requires in
    none_there _ _ _ _ c.self.invariant.space c.in_default.field-0.number there

pub object_from-requires : goal.object_from-requires
object_from-requires g c =
    let there = rw (← c.self.view_is, c.in-Small.is) at c.requires in
    rw c.deref.ensures.value (begins_there _ _ _ _ c.self.invariant.space c.in-Small.at.block c.in-Small.at.offset c.in-Small.at.offset_in_range there)

pub returns : goal.returns
returns g c =
    let there = rw (← c.self.view_is, c.in-Small.is) at c.requires in
    let read = rw c.deref.ensures.value at c.object_from.ensures in
    rw (← c.self.view_is, c.in-Small.is) (shown _ _ _ _ c.self.invariant.space c.in-Small.at.block c.in-Small.at.offset c.in-Small.at.offset_in_range there c.object_from.result read)
