use Rattle.block_pool.specs.ClaimsValue.{IsSeatOf}
use Rattle.base_tests.proofs.sharing_tests.claim_tests.draw_all.Given as goal

abbrev pub invariant-loop : goal.invariant-loop
invariant-loop l = IsSeatOf l.claims.source l.seat
