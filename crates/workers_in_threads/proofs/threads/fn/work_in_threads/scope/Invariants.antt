use Rattle.std.proofs.Common.{◌≡◌, ◌+◌, ◌≤◌, vec_len, vec_capacity}
use Rattle.std.specs.Vec.Iter.{into_iter_items, into_iter_len}
use Rattle.forwarding.specs.Passes.{AtEach}
use Rattle.workers_in_threads.specs.Kits.{IsKit}
use Rattle.workers_in_threads.proofs.Promised.{Row}
use Rattle.workers_in_threads.proofs.threads.fn.work_in_threads.scope.Given as goal

abbrev pub invariant-loop-kit : goal.invariant-loop-kit
invariant-loop-kit g l = record {
  many : vec_len l.handles + into_iter_len l.kit-iterator ≡ l.others;
  room : l.others ≤ vec_capacity l.handles;
  rest : AtEach (λ i k. IsKit (g.S.SharedCells.limit l.cells.now) (g.S.SharedCells.is_pass l.cells.now) g.S.SharedCells.won l.heap.now l.collection.now l.claims.now l.queues.now l.idle.now l.verdict.now l.workers (1 + (vec_len l.handles + i)) k) (into_iter_items l.kit-iterator);
  made : AtEach (λ i h. ◌≡◌ {A = Row g.row.S.Denot g.row.A.Denot} (h.promise.heap.now, h.promise.collection.now, h.promise.cells.now, h.promise.claims.now, h.promise.queues.now, h.promise.workers, h.promise.worker) (l.heap.now, l.collection.now, l.cells.now, l.claims.now, l.queues.now, l.workers, 1 + i)) l.handles.items;
}
