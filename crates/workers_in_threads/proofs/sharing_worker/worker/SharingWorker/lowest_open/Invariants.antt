use Rattle.std.proofs.Common.{◌≡◌, ℕ, ◌<◌, false}
use Rattle.workers.specs.WorkerSteps.{has_open_work}
use Rattle.workers_in_threads.proofs.sharing_worker.worker.SharingWorker.lowest_open.Given as goal

abbrev pub invariant-loop-d : goal.invariant-loop-d
invariant-loop-d g l = record { none : (e : ℕ) → e < l.d → has_open_work l.self.workspace.worker e ≡ false }
