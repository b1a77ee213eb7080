use Rattle.std.proofs.Common.{◌≡◌, ◌≤◌, length}
use Rattle.std.specs.Vec.{vec_capacity}
use Rattle.forwarding.specs.Boxed.{names_of}
use Rattle.forwarding.specs.Noted.{new_passes}
use Rattle.forwarding.proofs.box_cells.box_cells.BoxCells.new.Given as goal

abbrev pub invariant-loop-number : goal.invariant-loop-number
invariant-loop-number g l = record {
  made : l.made.items ≡ new_passes (names_of l.cells-inside.cells.items) l.number;
  many : length l.made.items ≡ l.number;
  room : l.passes ≤ vec_capacity l.made;
  cells : length l.cells-inside.cells.items ≡ l.count;
}
