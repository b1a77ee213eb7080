use Rattle.std.proofs.Common.{◌≡◌, true, false, true≢false, sym, Some}
use Rattle.std.specs.Prelude.{slice_get}
use Rattle.machine.specs.InterleavedValue.{InterleavedValue, MemberValue, system_of}
use Rattle.machine.proofs.Laws.{looked_up, resting_says, waking_says, none_past, says_as}
use Rattle.machine.proofs.workers_in_turn.interleaved.InterleavedCollection.is_resting.Goals as goal

pub returns-then-member : goal.returns-then-member
returns-then-member g c =
    let v : InterleavedValue = record { heap = c.self.inside.heap.value; collection = c.self.inside.collection.value; cells = c.self.inside.cells; pass = c.self.inside.pass; claims = c.self.inside.claims; draws = c.self.inside.draws; queues = c.self.inside.queues; workers = c.self.inside.workers; idlers = c.self.inside.idlers; members = c.self.inside.members.items } in
    says_as (λ x. (slice_get (system_of x).idle c.args.t ≡ Some true) × (slice_get (system_of x).ended c.args.t ≡ Some false)) _ c.self.view_is
    (resting_says v.members c.args.t _ (looked_up v.members c.deref.result.now c.args.t _ _ c.deref.ensures.value c.member.view_is c.in-Some.ensures.lookup.3.0 c.in-Some.ensures.lookup.1) c.if-member.true)

pub returns-else-member : goal.returns-else-member
returns-else-member g c =
    let v : InterleavedValue = record { heap = c.self.inside.heap.value; collection = c.self.inside.collection.value; cells = c.self.inside.cells; pass = c.self.inside.pass; claims = c.self.inside.claims; draws = c.self.inside.draws; queues = c.self.inside.queues; workers = c.self.inside.workers; idlers = c.self.inside.idlers; members = c.self.inside.members.items } in
    says_as (λ x. (slice_get (system_of x).idle c.args.t ≡ Some true) × (slice_get (system_of x).ended c.args.t ≡ Some false)) _ c.self.view_is
    (waking_says v.members c.args.t _ (looked_up v.members c.deref.result.now c.args.t _ _ c.deref.ensures.value c.member.view_is c.in-Some.ensures.lookup.3.0 c.in-Some.ensures.lookup.1) c.if-member.false)

pub returns-in-None : goal.returns-in-None
returns-in-None g c =
    let v : InterleavedValue = record { heap = c.self.inside.heap.value; collection = c.self.inside.collection.value; cells = c.self.inside.cells; pass = c.self.inside.pass; claims = c.self.inside.claims; draws = c.self.inside.draws; queues = c.self.inside.queues; workers = c.self.inside.workers; idlers = c.self.inside.idlers; members = c.self.inside.members.items } in
    says_as (λ x. (slice_get (system_of x).idle c.args.t ≡ Some true) × (slice_get (system_of x).ended c.args.t ≡ Some false)) false c.self.view_is
    ((λ e. absurd (true≢false (sym e))), (λ e. absurd (none_past (λ (m : MemberValue). m.idle) true v.members c.deref.result.now c.args.t c.deref.ensures.value c.in-None.ensures.lookup.3 e.0)))
