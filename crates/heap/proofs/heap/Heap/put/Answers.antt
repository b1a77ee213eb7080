use Rattle.std.proofs.Common.{rules}
use Rattle.heap.specs.HeapView.{heap_of}
use Rattle.heap.proofs.Storing.{held}
use Rattle.heap.proofs.Wholes.{whole_put}
use Rattle.heap.proofs.heap.Heap.put.Goals as goal

pub invariant_of-self : goal.invariant_of-self
invariant_of-self g c =
    let h = held (heap_of c.self.inside.objects c.self.inside.roots.slots).graph c.args.root.number _ _ c.self.invariant.closed (rw (← c.self.view_is) at c.target.ensures) c.in-Some.is in
    whole_put c.self.inside.objects c.set_plain.new.self c.self.inside.roots.slots c.self.inside.remembered c.args.root.number _ c.free_count-objects.ensures.sound c.self.invariant h _ (c.set_plain.ensures h.object h.there)

pub returns-clause-ok : goal.returns-clause-ok
returns-clause-ok g c = search rules
