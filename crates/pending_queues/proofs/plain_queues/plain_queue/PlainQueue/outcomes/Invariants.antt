use Rattle.std.proofs.Common.{◌≡◌, ◌≤◌, ◌++◌, length, drop}
use Rattle.std.specs.Prelude.{vec_len, vec_capacity}
use Rattle.pending_queues.specs.PlainValue.{outcomes}
use Rattle.pending_queues.proofs.plain_queues.plain_queue.PlainQueue.outcomes.Given as goal

abbrev pub invariant-loop-position : goal.invariant-loop-position
invariant-loop-position g l = (outcomes l.self.lane.sent l.self.lane.takers ≡ l.deliveries.items ++ outcomes (drop l.position l.self.lane.sent) (drop l.position l.self.lane.takers))
    × (vec_len l.deliveries ≡ l.position) × (length l.objects-items ≤ vec_capacity l.deliveries)
