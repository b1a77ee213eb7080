use Rattle.std.proofs.Common.{◌≡◌, ◌≤◌, length, map, take}
use Rattle.std.specs.Vec.{vec_capacity}
use Rattle.pending_queues.specs.PlainValue.{outcomes_of}
use Rattle.pending_queues.proofs.plain_queues.plain_pending.PlainPending.told.Given as goal

abbrev pub invariant-loop-queue : goal.invariant-loop-queue
invariant-loop-queue g l = record {
  told : map (λ v. v.items) l.lists.items ≡ map (λ q. outcomes_of q.lane) (take l.queue-index l.queue-items);
  many : length l.lists.items ≡ l.queue-index;
  room : length l.queue-items ≤ vec_capacity l.lists;
}
