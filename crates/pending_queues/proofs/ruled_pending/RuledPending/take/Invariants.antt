use Rattle.std.proofs.Common.{◌≡◌}
use Rattle.pending_queues.proofs.ruled_pending.RuledPending.take.Given as goal

abbrev pub invariant-loop : goal.invariant-loop
invariant-loop g l = l.seat ≡ l.fn.seat
