use Rattle.std.proofs.Common.{sym, ◌∙◌}
use Rattle.pending_queues.proofs.ruled_pending.RuledPending.new.Goals as goal

pub invariant_of-pending : goal.invariant_of-pending
invariant_of-pending g c = let e = c.in_ok-lanes.ensures.many in let t = c.in_ok-tallies.ensures in (t.many ∙ sym e, λ k d lt. t.seats k d lt ∙ sym e)
