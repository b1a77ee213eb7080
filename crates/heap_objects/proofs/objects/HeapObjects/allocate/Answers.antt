use Rattle.heap_objects.proofs.Allocated.{allocated_apart, allocates_small}
use Rattle.heap_objects.proofs.objects.HeapObjects.allocate.Goals as goal

pub invariant_of-self : goal.invariant_of-self
invariant_of-self g c = allocated_apart c.self.inside.space c.allocate-place.new.self c.self.inside.large c.self.invariant c.args.mutator c.args.pointers c.args.plain_words c.allocate-place.result c.allocate-place.ensures.some c.allocate-place.ensures.none c.free_count-free.ensures.space

pub returns-clause-some : goal.returns-clause-some
returns-clause-some g c = rw (← c.self.view_is) (allocates_small c.self.inside.space c.allocate-place.new.self c.self.inside.large c.self.invariant c.args.mutator c.args.pointers c.args.plain_words c.allocate-place.result c.allocate-place.ensures.some)
