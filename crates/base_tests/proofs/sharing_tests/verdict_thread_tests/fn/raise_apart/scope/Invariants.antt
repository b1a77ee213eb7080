use Rattle.std.proofs.Common.{◌≡◌, ◌+◌, ◌≤◌, vec_len, vec_capacity}
use Rattle.std.specs.List.{All}
use Rattle.std.specs.Vec.Iter.{into_iter_items, into_iter_len}
use Rattle.base_tests.proofs.sharing_tests.verdict_thread_tests.fn.raise_apart.scope.Given as goal

abbrev pub invariant-loop-seat : goal.invariant-loop-seat
invariant-loop-seat g l = record {
  many : vec_len l.handles + into_iter_len l.seat-iterator ≡ into_iter_len l.initial.seat-iterator;
  room : into_iter_len l.initial.seat-iterator ≤ vec_capacity l.handles;
  rest : All (λ s. s.name ≡ l.verdict.now.name) (into_iter_items l.seat-iterator);
  made : All (λ h. h.promise.0.now ≡ l.verdict.now) l.handles.items;
}
