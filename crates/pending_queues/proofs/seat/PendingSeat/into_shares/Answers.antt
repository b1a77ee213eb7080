use Rattle.pending_queues.proofs.Sharing.{one_passes, one_marks}
use Rattle.pending_queues.proofs.seat.PendingSeat.into_shares.Goals as goal

pub returns-clause-passes : goal.returns-clause-passes
returns-clause-passes g c = one_passes _ _ _ _ _ _ _ _ _ c.self.invariant c.self.view_is

pub returns-clause-marks : goal.returns-clause-marks
returns-clause-marks g c = one_marks _ _ _ _ _ _ _ _ _ c.self.invariant c.self.view_is
