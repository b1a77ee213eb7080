use Rattle.std.proofs.Common.{◌≡◌, drop, length}
use Rattle.pending_queues.specs.Telling.{placed}
use Rattle.pending_queues.proofs.telling.tell_all.Given as goal

abbrev pub invariant-loop-seat : goal.invariant-loop-seat
invariant-loop-seat g l = record {
  told : placed l.deliveries (drop l.seat-index l.seats) ≡ placed l.fn.deliveries l.seats;
  many : length l.deliveries ≡ length l.fn.deliveries;
}
