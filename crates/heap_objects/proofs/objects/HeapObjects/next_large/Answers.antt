use Rattle.heap_objects.proofs.Finds.{next_is}
use Rattle.heap_objects.proofs.objects.HeapObjects.next_large.Goals as goal

pub returns : goal.returns
returns g c = rw (← c.self.view_is) (next_is _ _ c.self.invariant c.args.from c.next_from.result c.next_from.ensures)
