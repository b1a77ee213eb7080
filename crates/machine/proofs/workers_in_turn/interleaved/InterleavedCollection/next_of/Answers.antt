use Rattle.std.proofs.Common.{◌≡◌, ◌<◌, Some, sym, ap, subst, ◌∙◌}
use Rattle.std.specs.Prelude.{slice_get}
use Rattle.std.specs.Option.{option_map}
use Rattle.workers.specs.Lawful.{HasQueued, next_of_worker, queue_at}
use Rattle.machine.specs.InterleavedValue.{InterleavedValue, system_of, setting_in}
use Rattle.machine.specs.SystemEvents.{event_of}
use Rattle.machine.proofs.Laws.{Says, closed_there, places_there, untouched_there}
use Rattle.machine.proofs.Choosing.{queue_some, queue_has, member_at, next_is}
use Rattle.machine.proofs.workers_in_turn.interleaved.InterleavedCollection.next_of.Goals as goal

pub next-requires-clause-closed : goal.next-requires-clause-closed
next-requires-clause-closed g c =
    let v : InterleavedValue = record { heap = c.self.inside.heap.value; collection = c.self.inside.collection.value; cells = c.self.inside.cells; pass = c.self.inside.pass; claims = c.self.inside.claims; draws = c.self.inside.draws; queues = c.self.inside.queues; workers = c.self.inside.workers; idlers = c.self.inside.idlers; members = c.self.inside.members.items } in
    closed_there v c.self.invariant c.args.t c.index.result.now (member_at v c.self.invariant c.args.t c.index.result.now (subst (λ (x : InterleavedValue). c.args.t < x.workers) (sym c.self.view_is) c.requires.there) c.index.ensures) c.args.heap.now (c.requires.heap ∙ ap (λ (x : InterleavedValue). x.heap) (sym c.self.view_is))

pub next-requires-clause-places : goal.next-requires-clause-places
next-requires-clause-places g c =
    let v : InterleavedValue = record { heap = c.self.inside.heap.value; collection = c.self.inside.collection.value; cells = c.self.inside.cells; pass = c.self.inside.pass; claims = c.self.inside.claims; draws = c.self.inside.draws; queues = c.self.inside.queues; workers = c.self.inside.workers; idlers = c.self.inside.idlers; members = c.self.inside.members.items } in
    places_there v c.self.invariant c.args.t c.index.result.now (member_at v c.self.invariant c.args.t c.index.result.now (subst (λ (x : InterleavedValue). c.args.t < x.workers) (sym c.self.view_is) c.requires.there) c.index.ensures) c.args.heap.now (c.requires.heap ∙ ap (λ (x : InterleavedValue). x.heap) (sym c.self.view_is))

pub next-requires-clause-untouched : goal.next-requires-clause-untouched
next-requires-clause-untouched g c =
    let v : InterleavedValue = record { heap = c.self.inside.heap.value; collection = c.self.inside.collection.value; cells = c.self.inside.cells; pass = c.self.inside.pass; claims = c.self.inside.claims; draws = c.self.inside.draws; queues = c.self.inside.queues; workers = c.self.inside.workers; idlers = c.self.inside.idlers; members = c.self.inside.members.items } in
    untouched_there v c.self.invariant c.args.t c.index.result.now (member_at v c.self.invariant c.args.t c.index.result.now (subst (λ (x : InterleavedValue). c.args.t < x.workers) (sym c.self.view_is) c.requires.there) c.index.ensures) c.args.heap.now (c.requires.heap ∙ ap (λ (x : InterleavedValue). x.heap) (sym c.self.view_is))

pub returns : goal.returns
returns g c =
    let v : InterleavedValue = record { heap = c.self.inside.heap.value; collection = c.self.inside.collection.value; cells = c.self.inside.cells; pass = c.self.inside.pass; claims = c.self.inside.claims; draws = c.self.inside.draws; queues = c.self.inside.queues; workers = c.self.inside.workers; idlers = c.self.inside.idlers; members = c.self.inside.members.items } in
    let says = subst (λ (x : InterleavedValue). Says c.has_queued.result (HasQueued (system_of x) c.args.t)) (sym c.self.view_is) c.has_queued.ensures in
    subst (λ (x : InterleavedValue). Some (event_of c.next.result) ≡ option_map (λ w. next_of_worker (setting_in x) c.args.t w (queue_at (system_of x) c.args.t)) (slice_get (system_of x).workers c.args.t)) c.self.view_is
    (next_is v c.self.invariant c.args.t c.index.result.now (subst (λ (x : InterleavedValue). c.args.t < x.workers) (sym c.self.view_is) c.requires.there) c.index.ensures c.args.heap.now (c.requires.heap ∙ ap (λ (x : InterleavedValue). x.heap) (sym c.self.view_is)) (event_of c.next.result)
    (c.next.ensures (queue_at (system_of v) c.args.t) (λ e. queue_some (system_of v) c.args.t (says.0 e)) (λ ne. says.1 (queue_has (system_of v) c.args.t ne))))
