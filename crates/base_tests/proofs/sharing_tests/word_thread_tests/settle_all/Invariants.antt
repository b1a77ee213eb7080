use Rattle.std.proofs.Common.{◌≡◌, ◌+◌, ◌≤◌, All, vec_len, vec_capacity}
use Rattle.std.specs.Vec.Iter.{into_iter_items, into_iter_len}
use Rattle.forwarding.specs.Words.{WordPassValue}
use Rattle.base_tests.specs.declared.sharing_tests.word_thread_tests.Done.{Done}
use Rattle.base_tests.proofs.sharing_tests.word_thread_tests.settle_all.Given as goal

abbrev pub invariant-loop-done : goal.invariant-loop-done
invariant-loop-done l = record {
  many : vec_len l.passes + into_iter_len l.done-iterator ≡ into_iter_len l.initial.done-iterator;
  room : into_iter_len l.initial.done-iterator ≤ vec_capacity l.passes;
  rest : All (λ (d : Done). d.pass.id ≡ l.fn.cells.id) (into_iter_items l.done-iterator);
  made : All (λ (p : WordPassValue). p.id ≡ l.fn.cells.id) l.passes.items;
}
