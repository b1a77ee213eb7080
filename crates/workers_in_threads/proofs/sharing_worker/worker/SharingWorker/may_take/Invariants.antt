use Rattle.std.proofs.Common.{◌≡◌}
use Rattle.workers_in_threads.proofs.sharing_worker.worker.SharingWorker.may_take.Given as goal

abbrev pub invariant-loop-exporter : goal.invariant-loop-exporter
invariant-loop-exporter g l = record { same : l.self ≡ l.fn.self }
