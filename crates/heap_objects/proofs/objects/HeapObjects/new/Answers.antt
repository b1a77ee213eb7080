use Rattle.heap_objects.proofs.Beginning.{begins_apart, begins_empty}
use Rattle.heap_objects.proofs.objects.HeapObjects.new.Goals as goal

pub invariant_of-result : goal.invariant_of-result
invariant_of-result g c = begins_apart c.args.config c.in_ok-space.space c.in_ok-large.large c.in_ok-space.ensures c.in_ok-large.ensures.empty c.requires c.free_count-free.ensures.space c.in_ok-large.ensures.pool_blocks

pub returns : goal.returns
returns g c = begins_empty c.args.config c.in_ok-space.space c.in_ok-large.large c.in_ok-space.ensures c.in_ok-large.ensures.empty
