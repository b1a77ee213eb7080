use Rattle.heap_objects.proofs.Sound.{sound_blocks}
use Rattle.heap_objects.proofs.heap_space.space.Space.count.Goals as goal

pub returns : goal.returns
returns g c =
    let counted = rw c.deref.ensures.value at c.count_step.ensures in
    rw (← c.self.view_is) (counted c.self.inside.config c.self.invariant.space.in_range (sound_blocks _ _ _ _ c.self.invariant.space))
