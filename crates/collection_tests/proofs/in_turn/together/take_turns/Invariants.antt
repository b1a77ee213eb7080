use Rattle.std.specs.Prelude.{◌≡◌}
use Rattle.collection_tests.proofs.in_turn.together.take_turns.Given as goal

abbrev pub invariant-loop-turn : goal.invariant-loop-turn
invariant-loop-turn l = record { heap : l.machine.heap ≡ l.fn.machine.heap }
