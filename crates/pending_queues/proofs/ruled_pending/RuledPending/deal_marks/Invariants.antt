use Rattle.std.proofs.Common.{◌≡◌, ◌≤◌, length, map, take, vec_capacity}
use Rattle.pending_queues.specs.TallyValue.{unraised}
use Rattle.pending_queues.proofs.Dealing.{AreTapped}
use Rattle.pending_queues.proofs.ruled_pending.RuledPending.deal_marks.Given as goal

abbrev pub invariant-loop-at : goal.invariant-loop-at
invariant-loop-at g l = record {
  room : length l.self.tallies ≤ vec_capacity l.marks;
  marks : l.marks.items ≡ map unraised (take l.at l.self.tallies);
  heaps : AreTapped l.self.tallies l.left l.at (λ h. h.items) l.heaps.items;
}
