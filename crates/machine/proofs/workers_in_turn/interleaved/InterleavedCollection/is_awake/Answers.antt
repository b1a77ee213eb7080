use Rattle.std.proofs.Common.{◌≡◌, false, true≢false, sym, Some}
use Rattle.std.specs.Prelude.{slice_get}
use Rattle.machine.specs.InterleavedValue.{InterleavedValue, MemberValue, system_of}
use Rattle.machine.proofs.Laws.{looked_up, awake_says, none_past, says_as}
use Rattle.machine.proofs.workers_in_turn.interleaved.InterleavedCollection.is_awake.Goals as goal

pub returns-in-Some : goal.returns-in-Some
returns-in-Some g c =
    let v : InterleavedValue = record { heap = c.self.inside.heap.value; collection = c.self.inside.collection.value; cells = c.self.inside.cells; pass = c.self.inside.pass; claims = c.self.inside.claims; draws = c.self.inside.draws; queues = c.self.inside.queues; workers = c.self.inside.workers; idlers = c.self.inside.idlers; members = c.self.inside.members.items } in
    says_as (λ x. slice_get (system_of x).idle c.args.t ≡ Some false) _ c.self.view_is
    (awake_says v.members c.args.t _ (looked_up v.members c.deref.result.now c.args.t _ _ c.deref.ensures.value c.member.view_is c.in-Some.ensures.lookup.3.0 c.in-Some.ensures.lookup.1))

pub returns-in-None : goal.returns-in-None
returns-in-None g c =
    let v : InterleavedValue = record { heap = c.self.inside.heap.value; collection = c.self.inside.collection.value; cells = c.self.inside.cells; pass = c.self.inside.pass; claims = c.self.inside.claims; draws = c.self.inside.draws; queues = c.self.inside.queues; workers = c.self.inside.workers; idlers = c.self.inside.idlers; members = c.self.inside.members.items } in
    says_as (λ x. slice_get (system_of x).idle c.args.t ≡ Some false) false c.self.view_is
    ((λ e. absurd (true≢false (sym e))), (λ e. absurd (none_past (λ (m : MemberValue). m.idle) false v.members c.deref.result.now c.args.t c.deref.ensures.value c.in-None.ensures.lookup.3 e)))
