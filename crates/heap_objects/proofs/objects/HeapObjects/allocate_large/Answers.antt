use Rattle.std.proofs.Common.{arith}
use Rattle.heap_objects.proofs.LargeAdded.{add_apart, add_allocates}
use Rattle.heap_objects.proofs.objects.HeapObjects.allocate_large.Goals as goal

pub invariant_of-self-2 : goal.invariant_of-self-2
invariant_of-self-2 g c =
    let big = rw (← c.self.view_is) at c.requires.large in
    let wanted = rw (← c.self.view_is) at c.wanted.ensures in
    add_apart c.self.inside.space c.add_large.new.self c.self.inside.large c.add_large.new.large c.in_ok-number.number.number c.args.pointers c.args.plain_words c.self.invariant c.requires.pointers c.requires.plain big (omega (arith, wanted, c.free_count.ensures.value, c.if-free_count-wanted.false)) c.in_ok-number.ensures.added c.in_ok-number.ensures.granted c.free_count-free.ensures.space c.len-numbers.ensures.numbers c.in_ok-number.ensures.pool_blocks

pub returns-clause-ok : goal.returns-clause-ok
returns-clause-ok g c =
    let big = rw (← c.self.view_is) at c.requires.large in
    let wanted = rw (← c.self.view_is) at c.wanted.ensures in
    rw (← c.self.view_is) (add_allocates c.self.inside.space c.add_large.new.self c.self.inside.large c.add_large.new.large c.in_ok-number.number.number c.args.pointers c.args.plain_words c.self.invariant c.requires.pointers c.requires.plain big (omega (arith, wanted, c.free_count.ensures.value, c.if-free_count-wanted.false)) c.in_ok-number.ensures.added c.in_ok-number.ensures.granted c.free_count-free.ensures.space c.len-numbers.ensures.numbers c.in_ok-number.ensures.pool_blocks)
