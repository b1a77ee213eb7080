use Rattle.heap_objects.proofs.Sound.{sound_blocks}
use Rattle.heap_objects.proofs.heap_space.space.Space.table.Goals as goal

pub returns-clause-blocks : goal.returns-clause-blocks
returns-clause-blocks g c = rw (c.deref.ensures.value, ← c.self.view_is) (sound_blocks _ _ _ _ c.self.invariant.space)
