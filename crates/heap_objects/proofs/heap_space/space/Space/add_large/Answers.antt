use Rattle.heap_objects.proofs.Lending.{lent_first}
use Rattle.heap_objects.proofs.heap_space.space.Space.add_large.Goals as goal

pub invariant_of-self : goal.invariant_of-self
invariant_of-self g c = lent_first _ _ _ _ _ _ c.self.invariant c.add.result _ c.add.ensures.granted c.add.ensures.pool_kept
