use Rattle.std.proofs.Common.{◌≡◌, ◌+◌, ◌-◌, ◌≤◌, min}
use Rattle.steps.proofs.heap_values.spare.Spare.split.Given as goal

abbrev pub invariant-loop : goal.invariant-loop
invariant-loop g l = record {
  part : l.part.blocks ≡ l.counter;
  here : l.self.blocks + l.counter ≡ l.fn.self.blocks;
  room : l.fn.count ≤ l.part.room;
  wide : l.self.room ≡ l.fn.self.room;
  cells : l.self.cells ≡ l.fn.self.cells;
  no_cells : l.part.cells ≡ 0;
  lists : l.self.lists ≡ l.fn.self.lists - 1;
  handed : l.part.lists ≡ min 1 l.fn.self.lists;
}
