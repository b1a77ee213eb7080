use Rattle.std.proofs.Common.{◌≡◌, ◌<◌, ◌++◌, ◌∷◌, [], List, All, length, map}
use Rattle.std.specs.Prelude.{vec_len}
use Rattle.pending_queues.specs.PendingValue.{SeatValue, IsSeatOf}
use Rattle.pending_queues.specs.SeatPass.{AtEach}
use Rattle.pending_queues.specs.Gathered.{AreGathered, IsGatheredMark}
use Rattle.pending_queues.proofs.ruled_pending.RuledPending.gather.Given as goal

abbrev pub invariant-loop-seat : goal.invariant-loop-seat
invariant-loop-seat g l =
    (done : List (SeatValue g.row.A.Denot g.row.C-Key.Denot))
    × (l.fn.seats.items ++ l.fn.last ∷ [] ≡ l.seats.items ++ done)
    × (0 < length done)
    × All (IsSeatOf l.self) l.seats.items
    × (map (λ p. p.lane) l.passes.items ≡ l.self.lanes)
    × (map (λ m. m.name) l.marks.items ≡ l.self.tallies)
    × AreGathered l.self.key (length l.self.lanes) done l.passes.items
    × AtEach (λ u m. IsGatheredMark done u m) l.marks.items

abbrev pub decreases-loop-seat : goal.decreases-loop-seat
decreases-loop-seat g l = vec_len l.seats
