use Rattle.std.specs.Prelude.{◌≡◌}
use Rattle.collection_tests.proofs.in_turn.together.step_drawn.Given as goal

abbrev pub invariant-loop-t : goal.invariant-loop-t
invariant-loop-t l = record { heap : l.machine.heap ≡ l.fn.machine.heap }
