use Rattle.std.proofs.Common.{◌≡◌, true}
use Rattle.idle_count.specs.IdleValue.{IsSeatOf}
use Rattle.base_tests.proofs.sharing_tests.idle_thread_tests.rest.Given as goal

abbrev pub invariant-loop : goal.invariant-loop
invariant-loop l = record { of : IsSeatOf l.idle l.seat; resting : l.seat.idle ≡ true }
