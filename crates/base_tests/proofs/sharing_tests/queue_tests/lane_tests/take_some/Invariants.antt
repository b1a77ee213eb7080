use Rattle.std.proofs.Common.{◌≡◌}
use Rattle.base_tests.proofs.sharing_tests.queue_tests.lane_tests.take_some.Given as goal

abbrev pub invariant-loop : goal.invariant-loop
invariant-loop g l = l.pass ≡ record l.fn.pass { taken = l.pass.taken }
