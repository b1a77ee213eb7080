use Rattle.std.proofs.Common.{◌≡◌, ◌≤◌, length, replicate}
use Rattle.std.specs.Vec.{vec_capacity}
use Rattle.pending_queues.specs.PlainValue.{empty_lane}
use Rattle.pending_queues.proofs.plain_queues.plain_pending.empty_queues.Given as goal

abbrev pub invariant-loop : goal.invariant-loop
invariant-loop g l = record {
  room : l.count ≤ vec_capacity l.queues;
  made : l.queues.items ≡ replicate l.counter (record { key = l.key; lane = empty_lane });
  many : length l.queues.items ≡ l.counter;
}
