use Rattle.std.proofs.Common.{◌≡◌, ◌<◌, ◌≤◌, ℕ, Some}
use Rattle.std.specs.List.{slice_get}
use Rattle.pending_queues.specs.TallyValue.{TallySeatValue}
use Rattle.pending_queues.proofs.shares.settle_marks.Given as goal

abbrev pub invariant-loop-number : goal.invariant-loop-number
invariant-loop-number g l = record {
  same : l.marks.items ≡ l.fn.marks.items;
  settled : (u : ℕ) (p : TallySeatValue) → u < l.number → slice_get l.fn.marks.items u ≡ Some p → p.seen ≤ p.raised;
}
