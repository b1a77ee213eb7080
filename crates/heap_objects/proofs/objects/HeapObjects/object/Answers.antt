use Rattle.std.proofs.Common.{arith}
use Rattle.heap_objects.proofs.Sides.{at_small, at_large}
use Rattle.heap_objects.proofs.ObjectReads.{shown_at, shown_large}
use Rattle.heap_objects.proofs.objects.HeapObjects.object.Goals as goal

pub returns-in-Small : goal.returns-in-Small
returns-in-Small g c =
    let at = c.in-Small.field-0 in
    let shown = rw c.in-Small.is at c.object.ensures in
    rw (← c.self.view_is, c.in-Small.is) (shown_at _ _ _ (at_small c.self.inside.space.objects c.self.inside.large.slots at.block at.offset (omega (arith, at.block_in_range)) (omega (arith, at.offset_in_range))) shown)

pub returns-in-Large : goal.returns-in-Large
returns-in-Large g c =
    rw (← c.self.view_is, c.in-Large.is) (shown_at _ _ _ (at_large c.self.inside.space c.self.invariant.small c.self.inside.large c.in-Large.number.number) (shown_large _ _ c.get.ensures.raw))
