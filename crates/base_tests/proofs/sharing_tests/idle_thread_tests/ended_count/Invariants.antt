use Rattle.std.specs.List.{All}
use Rattle.idle_count.specs.IdleValue.{IsSeatOf}
use Rattle.base_tests.proofs.sharing_tests.idle_thread_tests.ended_count.Given as goal

abbrev pub invariant-loop-seat : goal.invariant-loop-seat
invariant-loop-seat l = All (IsSeatOf l.idle) l.seats
