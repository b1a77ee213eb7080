use Rattle.std.specs.Prelude.{◌≡◌}
use Rattle.collection_tests.proofs.in_turn.together.try_each.Given as goal

abbrev pub invariant-loop-number : goal.invariant-loop-number
invariant-loop-number l = record { heap : l.machine.heap ≡ l.fn.machine.heap }
