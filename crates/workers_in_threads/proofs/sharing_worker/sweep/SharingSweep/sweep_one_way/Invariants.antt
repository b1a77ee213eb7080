use Rattle.std.proofs.Common.{◌≡◌, None}
use Rattle.scavenge.specs.Swept.{left_in_hand}
use Rattle.workers_in_threads.specs.SharingValue.{worker_of}
use Rattle.workers_in_threads.specs.Sharing.{IsSame}
use Rattle.workers_in_threads.proofs.sharing_worker.sweep.SharingSweep.sweep_one_way.Given as goal

abbrev pub invariant-loop-self : goal.invariant-loop-self
invariant-loop-self g l = record {
  same : IsSame g.C.Cells.at_home l.fn.self l.self;
  proposal : (worker_of l.self).proposal ≡ None;
}

abbrev pub decreases-loop-self : goal.decreases-loop-self
decreases-loop-self g l = left_in_hand (worker_of l.self)
