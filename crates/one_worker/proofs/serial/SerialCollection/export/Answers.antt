use Rattle.std.proofs.Common.{length, sym, subst}
use Rattle.pending_queues.specs.PlainValue.{lane_at, next_of}
use Rattle.scavenge.specs.Handed.{IsHandedFor}
use Rattle.scavenge.specs.Shown.{Begins}
use Rattle.one_worker.specs.SerialValue.{SerialValue}
use Rattle.one_worker.proofs.LaneSteps.{exported, handed_for, aside_handed, put_back}
use Rattle.scavenge.proofs.PutBack.{back_again}
use Rattle.one_worker.proofs.serial.SerialCollection.export.Goals as goal

pub export-requires-clause-fact : goal.export-requires-clause-fact
export-requires-clause-fact g c =
    let v : SerialValue = record { heap = c.self.inside.heap.value; collection = c.self.inside.collection.value; cells = c.self.inside.cells; pass = c.self.inside.pass; claims = c.self.inside.claims; draws = c.self.inside.draws; queues = c.self.inside.queues; seat = c.self.inside.seat; workspace = c.self.inside.workspace } in
    let first : Begins c.self.inside.workspace.config.shape c.self.inside.workspace.worker.aside c.in-Some.block = c.in-Some.ensures.block in
    subst (λ t. IsHandedFor c.self.inside.queues.key (next_of c.self.inside.queues t c.in-Some.block)) (sym c.self.invariant.queue.seat)
    (handed_for v c.in-Some.block (length (lane_at c.self.inside.queues 0).sent) c.self.invariant c.in-Some.ensures.whole (aside_handed v c.in-Some.block c.self.invariant first))

pub invariant_of-self : goal.invariant_of-self
invariant_of-self g c =
    let v : SerialValue = record { heap = c.self.inside.heap.value; collection = c.self.inside.collection.value; cells = c.self.inside.cells; pass = c.self.inside.pass; claims = c.self.inside.claims; draws = c.self.inside.draws; queues = c.self.inside.queues; seat = c.self.inside.seat; workspace = c.self.inside.workspace } in
    (exported v c.in-Some.block c.aside.new.self c.export.new.self c.export.new.seat c.self.invariant c.in-Some.ensures.block c.in-Some.ensures.worker c.in-Ok.ensures.pending c.export.ensures.seat c.in-Some.ensures.whole.noted).0

pub invariant_of-self-in-Err : goal.invariant_of-self-in-Err
invariant_of-self-in-Err g c =
    let v : SerialValue = record { heap = c.self.inside.heap.value; collection = c.self.inside.collection.value; cells = c.self.inside.cells; pass = c.self.inside.pass; claims = c.self.inside.claims; draws = c.self.inside.draws; queues = c.self.inside.queues; seat = c.self.inside.seat; workspace = c.self.inside.workspace } in
    put_back v c.unaside.new.self c.export.new.self c.export.new.seat c.self.invariant
    (back_again c.self.inside.workspace c.in-Some.block c.in-Err.block c.aside.new.self c.unaside.new.self c.in-Some.ensures.block c.in-Some.ensures.worker c.in-Err.ensures.pending.0 c.unaside.ensures)
    c.in-Err.ensures.pending.1 c.export.ensures.seat
