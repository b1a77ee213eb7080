use Rattle.std.proofs.Common.{◌≡◌, ◌≤◌, ◌-◌, length, map, vec_capacity}
use Rattle.std.specs.List.{range_with_len}
use Rattle.pending_queues.specs.PendingValue.{new_seat}
use Rattle.pending_queues.specs.Dealt.{AreRoots, AreHeaps}
use Rattle.pending_queues.proofs.ruled_pending.RuledPending.deal_seats.Given as goal

abbrev pub invariant-loop-index : goal.invariant-loop-index
invariant-loop-index g l = record {
  room : l.count ≤ vec_capacity l.seats;
  seats : l.seats.items ≡ map (new_seat l.self) (range_with_len 0 l.index);
  many : length l.seats.items ≡ l.index;
  roots : AreRoots l.self.key l.self.lanes (length l.self.lanes) l.index l.roots.items;
  heaps : AreHeaps l.self.tallies (l.count - l.index) (λ h. h.items) l.heaps.items;
}
