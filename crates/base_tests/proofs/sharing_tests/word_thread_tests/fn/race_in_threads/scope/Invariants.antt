use Rattle.std.proofs.Common.{◌≡◌, ◌+◌, ◌≤◌, All, vec_len}
use Rattle.std.specs.Vec.Iter.{into_iter_items, into_iter_len}
use Rattle.forwarding.specs.Words.{WordPassValue}
use Rattle.base_tests.proofs.sharing_tests.word_thread_tests.fn.race_in_threads.scope.Given as goal

abbrev pub invariant-loop-pass : goal.invariant-loop-pass
invariant-loop-pass g l = record {
  many : vec_len l.handles + into_iter_len l.pass-iterator ≡ into_iter_len l.initial.pass-iterator;
  worker : l.worker + into_iter_len l.pass-iterator ≤ 4;
  rest : All (λ (p : WordPassValue). p.id ≡ l.cells.now.id) (into_iter_items l.pass-iterator);
  made : All (λ h. h.promise.0.now ≡ l.cells.now) l.handles.items;
}
