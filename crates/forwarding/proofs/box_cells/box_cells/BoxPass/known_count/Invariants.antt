use Rattle.std.proofs.Common.{◌≡◌, ◌≤◌, take}
use Rattle.std.specs.List.{sum_by}
use Rattle.forwarding.specs.Settled.{ones}
use Rattle.forwarding.proofs.box_cells.box_cells.BoxPass.known_count.Given as goal

abbrev pub invariant-loop-known : goal.invariant-loop-known
invariant-loop-known l = record {
  count : l.count ≡ sum_by ones (take l.known-index l.known-items);
  few : l.count ≤ l.known-index;
}
