use Rattle.std.proofs.Common.{◌≡◌, ◌++◌, map}
use Rattle.std.specs.Vec.Iter.{into_iter_items}
use Rattle.workers_in_threads.proofs.separating.separated.Given as goal

-- what was taken apart, and what is left, are all
abbrev pub invariant-loop-worker : goal.invariant-loop-worker
invariant-loop-worker g l = record {
  passes : l.passes.items ++ map (λ r. r.pass) (into_iter_items l.worker-iterator) ≡ map (λ r. r.pass) l.fn.brought.items;
  draws : l.draws.items ++ map (λ r. r.draws) (into_iter_items l.worker-iterator) ≡ map (λ r. r.draws) l.fn.brought.items;
  seats : l.seats.items ++ map (λ r. r.seat) (into_iter_items l.worker-iterator) ≡ map (λ r. r.seat) l.fn.brought.items;
  workspaces : l.workspaces.items ++ map (λ r. r.workspace) (into_iter_items l.worker-iterator) ≡ map (λ r. r.workspace) l.fn.brought.items;
}
