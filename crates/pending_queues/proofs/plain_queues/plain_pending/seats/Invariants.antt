use Rattle.std.proofs.Common.{◌≡◌, ◌≤◌, length}
use Rattle.std.specs.Vec.{vec_capacity}
use Rattle.std.specs.List.{range_with_len}
use Rattle.pending_queues.proofs.plain_queues.plain_pending.seats.Given as goal

abbrev pub invariant-loop-index : goal.invariant-loop-index
invariant-loop-index g l = record {
  room : l.count ≤ vec_capacity l.seats;
  made : l.seats.items ≡ range_with_len 0 l.index;
  many : length l.seats.items ≡ l.index;
}
