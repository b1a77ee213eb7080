use Rattle.std.proofs.Common.{ap, ◌∙◌}
use Rattle.heap.specs.HeapValue.{empty_heap}
use Rattle.combinators.proofs.nodes.Nodes.new.Goals as goal

pub returns-in-Ok-new-clause-ok : goal.returns-in-Ok-new-clause-ok
returns-in-Ok-new-clause-ok c = c.in-Ok-new.ensures.ok ∙ ap empty_heap c.in-Ok.ensures.ok
