use Rattle.std.proofs.Common.{rules}
use Rattle.heap_objects.proofs.Facts.{is_space}
use Rattle.heap_objects.proofs.heap_space.space.Space.free_count.Goals as goal

pub returns-clause-space : goal.returns-clause-space
returns-clause-space g c = rw (← c.self.view_is) (is_space _ _ _ _ c.self.invariant.space c.free_count.ensures.rising)

pub returns-clause-value : goal.returns-clause-value
returns-clause-value g c = search rules
