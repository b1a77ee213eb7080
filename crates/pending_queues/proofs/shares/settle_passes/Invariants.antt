use Rattle.std.proofs.Common.{◌≡◌, ◌<◌, ℕ, Some}
use Rattle.std.specs.List.{slice_get}
use Rattle.pending_queues.specs.PassValue.{PassValue}
use Rattle.pending_queues.specs.Gathered.{IsSettled}
use Rattle.pending_queues.proofs.shares.settle_passes.Given as goal

abbrev pub invariant-loop-number : goal.invariant-loop-number
invariant-loop-number g l = record {
  same : l.passes.items ≡ l.fn.passes.items;
  settled : (u : ℕ) (p : PassValue g.row.A.Denot g.row.C-Key.Denot) → u < l.number → slice_get l.fn.passes.items u ≡ Some p → IsSettled p;
}
