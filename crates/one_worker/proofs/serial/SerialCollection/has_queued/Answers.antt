use Rattle.std.proofs.Common.{◌≢◌, [], subst}
use Rattle.std.specs.Prelude.{IsTrue}
use Rattle.one_worker.specs.SerialValue.{SerialValue, lane_of}
use Rattle.scavenge.specs.Waiting.{waiting_in}
use Rattle.one_worker.proofs.LaneSteps.{some_waits, waiting_some}
use Rattle.one_worker.proofs.serial.SerialCollection.has_queued.Goals as goal

pub returns : goal.returns
returns g c =
    let v : SerialValue = record { heap = c.self.inside.heap.value; collection = c.self.inside.collection.value; cells = c.self.inside.cells; pass = c.self.inside.pass; claims = c.self.inside.claims; draws = c.self.inside.draws; queues = c.self.inside.queues; seat = c.self.inside.seat; workspace = c.self.inside.workspace } in
    subst (λ (x : SerialValue). (IsTrue c.maybe.result → waiting_in (lane_of x) ≢ []) × (waiting_in (lane_of x) ≢ [] → IsTrue c.maybe.result)) c.self.view_is
    ((λ t. some_waits v (c.maybe.ensures.0 t)), (λ ne. c.maybe.ensures.1 (waiting_some v ne)))
