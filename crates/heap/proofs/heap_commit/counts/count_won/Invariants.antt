use Rattle.std.proofs.Common.{◌≡◌, take, sum_by, length}
use Rattle.heap.proofs.heap_commit.counts.count_won.Given as goal

abbrev pub invariant-loop-worker : goal.invariant-loop-worker
invariant-loop-worker g l = l.count ≡ sum_by (λ w. length w.won) (take l.worker-index l.workers)
