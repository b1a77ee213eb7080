use Rattle.std.proofs.Common.{◌≡◌, ◌≤◌, vec_capacity}
use Rattle.forwarding.specs.Plain.{fresh_passes}
use Rattle.forwarding.proofs.plain_cells.plain_cells.PlainCells.new.Given as goal

abbrev pub invariant-loop-number : goal.invariant-loop-number
invariant-loop-number g l = record {
  made : l.made.items ≡ fresh_passes l.count l.passes l.number;
  room : l.passes ≤ vec_capacity l.made;
}
