use Rattle.std.proofs.Common.{map, refl}
use Rattle.std.specs.Prelude.{vec_len}
use Rattle.pending_queues.specs.TallyValue.{both_seats}
use Rattle.pending_queues.proofs.Joining.{Halfway}
use Rattle.pending_queues.proofs.shares.gather_marks.Given as goal

abbrev pub invariant-loop-other : goal.invariant-loop-other
invariant-loop-other g l = Halfway (λ m. m.name) both_seats (λ p q. refl) (map (λ t. t.name) l.tallies.items) l.fn.marks.items l.fn.others.items l.marks.items l.others.items

abbrev pub decreases-loop-other : goal.decreases-loop-other
decreases-loop-other g l = vec_len l.others
