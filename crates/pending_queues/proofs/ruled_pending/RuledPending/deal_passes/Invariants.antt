use Rattle.std.proofs.Common.{◌≤◌, length, vec_capacity}
use Rattle.pending_queues.proofs.Dealing.{AreBetween, AreFirst}
use Rattle.pending_queues.proofs.ruled_pending.RuledPending.deal_passes.Given as goal

abbrev pub invariant-loop-at : goal.invariant-loop-at
invariant-loop-at g l = record {
  room : length l.self.lanes ≤ vec_capacity l.passes;
  passes : AreFirst l.self.key l.self.lanes (length l.self.lanes) l.index l.at l.passes.items;
  roots : AreBetween l.self.key l.self.lanes (length l.self.lanes) l.index l.at l.roots.items;
}
