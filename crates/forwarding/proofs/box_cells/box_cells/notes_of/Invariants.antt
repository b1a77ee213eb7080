use Rattle.std.proofs.Common.{◌≡◌, ◌≤◌, map, length, take, replicate}
use Rattle.std.specs.Vec.{vec_capacity}
use Rattle.std.specs.declared.option.Option.TheVariants.{None}
use Rattle.forwarding.specs.Boxed.{note_cell, note_known, names_of}
use Rattle.forwarding.proofs.box_cells.box_cells.notes_of.Given as goal

abbrev pub invariant-loop-cell : goal.invariant-loop-cell
invariant-loop-cell l = record {
  cells : map note_cell l.notes.items ≡ names_of (take l.cell-index l.cells);
  known : map note_known l.notes.items ≡ replicate l.cell-index None;
  many : length l.notes.items ≡ l.cell-index;
  room : length l.cells ≤ vec_capacity l.notes;
}
