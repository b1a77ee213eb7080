use Rattle.std.proofs.Common.{arith, nat_lt}
use Rattle.workers.specs.Lawful.{HasQueued}
use Rattle.machine.specs.InterleavedValue.{InterleavedValue, system_of}
use Rattle.machine.proofs.Laws.{queued_says, unqueued_says, says_as}
use Rattle.machine.proofs.workers_in_turn.interleaved.InterleavedCollection.has_queued.Goals as goal

pub returns-then-u-self : goal.returns-then-u-self
returns-then-u-self g c =
    let v : InterleavedValue = record { heap = c.self.inside.heap.value; collection = c.self.inside.collection.value; cells = c.self.inside.cells; pass = c.self.inside.pass; claims = c.self.inside.claims; draws = c.self.inside.draws; queues = c.self.inside.queues; workers = c.self.inside.workers; idlers = c.self.inside.idlers; members = c.self.inside.members.items } in
    says_as (λ x. HasQueued (system_of x) c.args.u) c.maybe.result c.self.view_is (queued_says v c.self.invariant c.args.u c.maybe.result c.if-u-self.true c.maybe.ensures)

pub returns-else-u-self : goal.returns-else-u-self
returns-else-u-self g c =
    let v : InterleavedValue = record { heap = c.self.inside.heap.value; collection = c.self.inside.collection.value; cells = c.self.inside.cells; pass = c.self.inside.pass; claims = c.self.inside.claims; draws = c.self.inside.draws; queues = c.self.inside.queues; workers = c.self.inside.workers; idlers = c.self.inside.idlers; members = c.self.inside.members.items } in
    says_as (λ x. HasQueued (system_of x) c.args.u) (nat_lt c.args.u c.self.inside.workers) c.self.view_is (unqueued_says v c.self.invariant c.args.u (nat_lt c.args.u c.self.inside.workers) (λ l. omega (arith, l, c.if-u-self.false)) (grind (arith, c.if-u-self.false)))
