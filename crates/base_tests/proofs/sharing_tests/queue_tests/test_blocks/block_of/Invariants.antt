use Rattle.std.proofs.Common.{◌≡◌}
use Rattle.base_tests.proofs.sharing_tests.queue_tests.test_blocks.block_of.Given as goal

abbrev pub invariant-loop : goal.invariant-loop
invariant-loop l = l.block.words ≡ 16
