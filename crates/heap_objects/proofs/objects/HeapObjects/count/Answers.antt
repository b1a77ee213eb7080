use Rattle.std.proofs.Common.{sym, ◌∙◌}
use Rattle.heap_objects.proofs.Counts.{small_counted}
use Rattle.heap_objects.proofs.objects.HeapObjects.count.Goals as goal

pub returns : goal.returns
returns g c = rw (← c.self.view_is) (c.count.ensures ∙ sym (small_counted c.self.inside.space c.self.inside.large c.self.invariant _))
