use Rattle.std.proofs.Common.{◌≡◌, length}
use Rattle.forwarding.specs.Noted.{IsStep}
use Rattle.forwarding.specs.Gathered.{IsGathered}
use Rattle.forwarding.proofs.box_cells.box_settle.gather.Given as goal

abbrev pub invariant-loop-pass : goal.invariant-loop-pass
invariant-loop-pass l = record {
  all : IsStep l.fn.all l.all;
  many : length l.all.known ≡ length l.all.cells;
  passes : l.pass-items ≡ l.fn.passes;
  gathered : IsGathered l.pass-index l.fn.passes l.all.known;
}
