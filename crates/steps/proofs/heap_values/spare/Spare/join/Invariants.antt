use Rattle.std.proofs.Common.{◌≡◌, ◌+◌, ◌≤◌, ◌<◌, ◌^◌}
use Rattle.steps.proofs.heap_values.spare.Spare.join.Given as goal

abbrev pub invariant-loop : goal.invariant-loop
invariant-loop g l = record {
  here : l.self.blocks ≡ l.fn.self.blocks + l.counter;
  there : l.other.blocks + l.counter ≡ l.fn.other.blocks;
  fits : l.self.blocks + l.other.blocks ≤ l.self.room;
  room : l.fn.other.blocks + l.fn.room < 2 ^ 64 → l.self.blocks + l.other.blocks + l.fn.room ≤ l.self.room;
  cells : l.self.cells ≡ l.fn.self.cells;
  lists : l.self.lists ≡ l.fn.self.lists;
}
