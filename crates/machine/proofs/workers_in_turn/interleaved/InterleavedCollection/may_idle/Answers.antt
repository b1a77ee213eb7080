use Rattle.std.proofs.Common.{◌≡◌, false, [], sym, subst, Some}
use Rattle.std.specs.Prelude.{IsTrue, slice_get}
use Rattle.workers.specs.WorkerSteps.{IsOutOfWork}
use Rattle.workers.specs.Lawful.{MayAct, HasQueued}
use Rattle.machine.specs.InterleavedValue.{InterleavedValue, system_of}
use Rattle.machine.proofs.Laws.{idle_says, says_as}
use Rattle.machine.proofs.workers_in_turn.interleaved.InterleavedCollection.may_idle.Goals as goal

pub returns-then-is_awake : goal.returns-then-is_awake
returns-then-is_awake g c =
    let v : InterleavedValue = record { heap = c.self.inside.heap.value; collection = c.self.inside.collection.value; cells = c.self.inside.cells; pass = c.self.inside.pass; claims = c.self.inside.claims; draws = c.self.inside.draws; queues = c.self.inside.queues; workers = c.self.inside.workers; idlers = c.self.inside.idlers; members = c.self.inside.members.items } in
    says_as (λ x. MayAct IsOutOfWork (system_of x) c.args.t × (slice_get (system_of x).queues c.args.t ≡ Some [])) c.is_out_of_work.result c.self.view_is
    (idle_says v c.self.invariant c.args.t c.index.result.now c.index.ensures (subst (λ (x : InterleavedValue). slice_get (system_of x).idle c.args.t ≡ Some false) (sym c.self.view_is) (c.is_awake.ensures.0 c.if-is_awake.true)) c.has_queued.result
    (subst (λ (x : InterleavedValue). HasQueued (system_of x) c.args.t → IsTrue c.has_queued.result) (sym c.self.view_is) c.has_queued.ensures.1) c.if-has_queued.false c.is_out_of_work.result c.is_out_of_work.ensures)
