use Rattle.std.proofs.Common.{◌≡◌, map, drop}
use Rattle.pending_queues.specs.Written.{with_takers}
use Rattle.pending_queues.proofs.TellingLists.{label_of}
use Rattle.pending_queues.proofs.seat.PendingSeat.name_takes.Given as goal

abbrev pub invariant-loop-label : goal.invariant-loop-label
invariant-loop-label g l =
    with_takers l.deliveries l.self.index (map label_of (drop l.label-index l.label-items))
    ≡ with_takers l.fn.deliveries l.self.index (map (λ b. b.sent) l.self.taken)
