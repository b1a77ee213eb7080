use Rattle.std.proofs.Common.{◌≡◌, length}
use Rattle.std.specs.List.{All}
use Rattle.block_pool.specs.ClaimsValue.{IsSeatOf}
use Rattle.base_tests.proofs.sharing_tests.claim_tests.assert_drawn.Given as goal

abbrev pub invariant-loop-turn : goal.invariant-loop-turn
invariant-loop-turn g l = record {
  seats : All (IsSeatOf l.claims.source) l.seats;
  count : length l.seats ≡ length l.fn.seats;
}
