use Rattle.std.proofs.Common.{◌≡◌, length}
use Rattle.workers_in_threads.specs.SharingValue.{worker_of}
use Rattle.workers_in_threads.specs.Sharing.{IsSame}
use Rattle.workers_in_threads.proofs.sharing_worker.worker.SharingWorker.take_any.Given as goal

abbrev pub invariant-loop-other : goal.invariant-loop-other
invariant-loop-other g l = record {
  same : IsSame g.C.Cells.at_home l.fn.self l.self;
  worker : worker_of l.self ≡ worker_of l.fn.self;
  cleared : l.self.seat.cleared ≡ length l.self.seat.sent;
}
