use Rattle.std.proofs.Common.{refl}
use Rattle.std.specs.Prelude.{vec_len}
use Rattle.pending_queues.specs.PassValue.{both}
use Rattle.pending_queues.proofs.Joining.{Halfway}
use Rattle.pending_queues.proofs.shares.gather_passes.Given as goal

abbrev pub invariant-loop-other : goal.invariant-loop-other
invariant-loop-other g l = Halfway (λ p. p.lane) both (λ p q. refl) l.lanes.items l.fn.passes.items l.fn.others.items l.passes.items l.others.items

abbrev pub decreases-loop-other : goal.decreases-loop-other
decreases-loop-other g l = vec_len l.others
