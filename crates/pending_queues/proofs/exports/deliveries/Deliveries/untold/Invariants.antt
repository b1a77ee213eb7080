use Rattle.std.proofs.Common.{◌≡◌, ◌≤◌, [], length, map, replicate}
use Rattle.std.specs.Vec.{vec_capacity}
use Rattle.pending_queues.proofs.exports.deliveries.Deliveries.untold.Given as goal

abbrev pub invariant-loop : goal.invariant-loop
invariant-loop g l = record {
  room : l.count ≤ vec_capacity l.lists;
  many : length l.lists.items ≡ l.counter;
  empty : map (λ v. v.items) l.lists.items ≡ replicate l.counter [];
}
