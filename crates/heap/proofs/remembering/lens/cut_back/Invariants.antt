use Rattle.std.proofs.Common.{◌≡◌, ℕ, List, length, map}
use Rattle.heap.specs.Growth.{AreGrown}
use Rattle.heap.proofs.Grown.{AreCut}
use Rattle.heap.proofs.remembering.lens.cut_back.Given as goal

abbrev pub invariant-loop-h : goal.invariant-loop-h
invariant-loop-h g l = record {
  generations : length l.sets ≡ length l.fn.sets;
  cut : (start : List (List ℕ)) → l.lens ≡ map length start → AreGrown start l.fn.sets → AreCut start l.fn.sets l.sets l.h;
}
