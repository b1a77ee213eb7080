use Rattle.std.specs.Prelude.{◌≡◌}
use Rattle.collection_tests.proofs.in_turn.together.wander.Given as goal

abbrev pub invariant-loop-step : goal.invariant-loop-step
invariant-loop-step l = record { heap : l.machine.heap ≡ l.fn.machine.heap }
