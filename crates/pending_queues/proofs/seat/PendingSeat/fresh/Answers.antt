use Rattle.std.proofs.Common.{refl}
use Rattle.pending_queues.proofs.Dealing.{fresh-seat, new-sent}
use Rattle.pending_queues.proofs.seat.PendingSeat.fresh.Goals as goal

pub invariant_of-result : goal.invariant_of-result
invariant_of-result g c = let e = c.in_ok-logs.ensures in rw (c.of.ensures, e.0, e.1, e.2) (fresh-seat _ _ _ _ c.requires.passes c.requires.marks c.requires.many)

pub returns : goal.returns
returns g c = let e = c.in_ok-logs.ensures in rw (c.of.ensures, e.2, new-sent _ _ _ _ _ c.requires.passes) refl
