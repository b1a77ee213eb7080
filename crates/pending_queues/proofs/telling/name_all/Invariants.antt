use Rattle.std.proofs.Common.{◌≡◌, ℕ, ◌<◌, All, drop, get_or, length}
use Rattle.pending_queues.specs.Delivered.{IsLabelledBelow}
use Rattle.pending_queues.specs.PendingValue.{SeatValue}
use Rattle.pending_queues.specs.Telling.{named}
use Rattle.pending_queues.proofs.telling.name_all.Given as goal

abbrev pub invariant-loop-seat : goal.invariant-loop-seat
invariant-loop-seat g l =
    (named l.deliveries (drop l.seat-index l.seats) ≡ named l.fn.deliveries l.seats)
    × ((k : ℕ) (d : SeatValue _ _) → k < l.seat-index → All (IsLabelledBelow (length (get_or l.seats k d).source.lanes)) (get_or l.seats k d).taken)
