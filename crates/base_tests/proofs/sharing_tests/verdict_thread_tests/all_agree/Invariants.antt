use Rattle.std.proofs.Common.{◌≡◌}
use Rattle.std.specs.List.{All}
use Rattle.std.specs.Vec.Iter.{into_iter_items}
use Rattle.base_tests.proofs.sharing_tests.verdict_thread_tests.all_agree.Given as goal

abbrev pub invariant-loop-told : goal.invariant-loop-told
invariant-loop-told l = record {
  first : l.first.name ≡ l.verdict.name;
  rest : All (λ t. t.seat.name ≡ l.verdict.name) (into_iter_items l.told-iterator);
}
