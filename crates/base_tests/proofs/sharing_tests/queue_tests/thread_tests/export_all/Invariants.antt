use Rattle.pending_queues.specs.PendingValue.{IsSeatOf}
use Rattle.base_tests.proofs.sharing_tests.queue_tests.thread_tests.export_all.Given as goal

abbrev pub invariant-loop : goal.invariant-loop
invariant-loop g l = IsSeatOf l.fn.pending l.seat
