use Rattle.std.proofs.Common.{◌≡◌, length, map, take}
use Rattle.heap.proofs.remembering.lens.lens.Given as goal

abbrev pub invariant-loop-h : goal.invariant-loop-h
invariant-loop-h g l = record {
  counted : l.lens.items ≡ map length (take l.h l.sets);
  len : length l.lens.items ≡ l.h;
}
