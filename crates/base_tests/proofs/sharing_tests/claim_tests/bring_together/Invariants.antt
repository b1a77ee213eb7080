use Rattle.std.proofs.Common.{◌≡◌, ◌+◌, vec_len, IfOk}
use Rattle.std.specs.List.{All}
use Rattle.std.specs.Vec.Iter.{into_iter_items, into_iter_len}
use Rattle.block_pool.specs.ClaimsValue.{IsSeatOf}
use Rattle.base_tests.proofs.sharing_tests.claim_tests.bring_together.Given as goal

abbrev pub invariant-loop-done : goal.invariant-loop-done
invariant-loop-done l = record {
  many : vec_len l.seats + into_iter_len l.done-iterator ≡ into_iter_len l.initial.done-iterator;
  rest : All (λ r. IfOk r (λ d. IsSeatOf l.claims.source d.seat)) (into_iter_items l.done-iterator);
  made : All (IsSeatOf l.claims.source) l.seats.items;
}
