use Rattle.std.proofs.Common.{◌≡◌, None}
use Rattle.scavenge.specs.Swept.{left_in_hand}
use Rattle.workers_in_threads.specs.SharingValue.{worker_of}
use Rattle.workers_in_threads.specs.Sharing.{IsSame}
use Rattle.workers_in_threads.proofs.sharing_worker.sweep.SharingSweep.sweep_on.Given as goal

abbrev pub invariant-loop : goal.invariant-loop
invariant-loop g l = record {
  same : IsSame g.C.Cells.at_home l.fn.self l.self;
  proposal : (worker_of l.self).proposal ≡ None;
}

abbrev pub decreases-loop : goal.decreases-loop
decreases-loop g l = left_in_hand (worker_of l.self)
