use Rattle.std.proofs.Common.{◌≢◌, [], sym, ap, subst, ◌∙◌}
use Rattle.workers.specs.WorkerSteps.{IsFree}
use Rattle.workers.specs.System.{Take}
use Rattle.std.specs.Prelude.{IfSome}
use Rattle.pending_queues.specs.PlainValue.{after_take}
use Rattle.scavenge.specs.Handed.{IsHandedFor}
use Rattle.one_worker.specs.SerialValue.{SerialValue, Goes, lane_of}
use Rattle.scavenge.specs.Waiting.{waiting_in}
use Rattle.one_worker.proofs.LaneSteps.{took, none_waits}
use Rattle.one_worker.proofs.serial.SerialCollection.take.Goals as goal

pub unreachable-requires : goal.unreachable-requires
unreachable-requires g c =
    let v : SerialValue = record { heap = c.self.inside.heap.value; collection = c.self.inside.collection.value; cells = c.self.inside.cells; pass = c.self.inside.pass; claims = c.self.inside.claims; draws = c.self.inside.draws; queues = c.self.inside.queues; seat = c.self.inside.seat; workspace = c.self.inside.workspace } in
    subst (λ (x : SerialValue). waiting_in (lane_of x) ≢ []) (sym c.self.view_is) c.requires.work (none_waits v (sym c.in_ok-block.ensures.front ∙ c.in_default.is))

pub invariant_of-self-2 : goal.invariant_of-self-2
invariant_of-self-2 g c =
    let v : SerialValue = record { heap = c.self.inside.heap.value; collection = c.self.inside.collection.value; cells = c.self.inside.cells; pass = c.self.inside.pass; claims = c.self.inside.claims; draws = c.self.inside.draws; queues = c.self.inside.queues; seat = c.self.inside.seat; workspace = c.self.inside.workspace } in
    (took v c.in-Some.block c.taken.new.self c.take.new.self c.take.new.seat c.self.invariant (subst (λ (x : SerialValue). IsFree x.workspace.worker) (sym c.self.view_is) c.requires.free)
    (sym c.in_ok-block.ensures.front ∙ c.in-Some.is) (subst (λ o. IfSome o (IsHandedFor c.self.inside.queues.key)) c.in-Some.is c.in_ok-block.ensures.fact)
    c.taken.ensures (c.in_ok-block.ensures.pending ∙ ap (λ o. after_take c.self.inside.queues 0 c.self.inside.seat o) c.in-Some.is) c.take.ensures.seat).0

pub returns-clause-ok : goal.returns-clause-ok
returns-clause-ok g c =
    let v : SerialValue = record { heap = c.self.inside.heap.value; collection = c.self.inside.collection.value; cells = c.self.inside.cells; pass = c.self.inside.pass; claims = c.self.inside.claims; draws = c.self.inside.draws; queues = c.self.inside.queues; seat = c.self.inside.seat; workspace = c.self.inside.workspace } in
    subst (λ (x : SerialValue). Goes (Take 0 0) x (record v { queues = c.take.new.self; seat = c.take.new.seat; workspace = c.taken.new.self })) c.self.view_is
    (took v c.in-Some.block c.taken.new.self c.take.new.self c.take.new.seat c.self.invariant (subst (λ (x : SerialValue). IsFree x.workspace.worker) (sym c.self.view_is) c.requires.free)
    (sym c.in_ok-block.ensures.front ∙ c.in-Some.is) (subst (λ o. IfSome o (IsHandedFor c.self.inside.queues.key)) c.in-Some.is c.in_ok-block.ensures.fact)
    c.taken.ensures (c.in_ok-block.ensures.pending ∙ ap (λ o. after_take c.self.inside.queues 0 c.self.inside.seat o) c.in-Some.is) c.take.ensures.seat).1
