use Rattle.heap_objects.proofs.SoundObjects.{are_objects}
use Rattle.heap_objects.proofs.objects.HeapObjects.free_count.Goals as goal

pub returns-clause-sound : goal.returns-clause-sound
returns-clause-sound g c = rw (← c.self.view_is) (are_objects c.self.inside.space c.self.inside.large c.self.invariant)
