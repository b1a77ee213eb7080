use Rattle.std.proofs.Common.{take}
use Rattle.steps.specs.BlockObjects.{copies_of}
use Rattle.heap.specs.Growth.{AreGrown}
use Rattle.heap.specs.Lowest.{lowest_in}
use Rattle.heap.specs.Noted.{AreNoted}
use Rattle.heap.proofs.remembering.copies.note_copies.Given as goal

-- the copies in the blocks so far are noted
abbrev pub invariant-loop-i : goal.invariant-loop-i
invariant-loop-i g l = record {
  grown : AreGrown l.fn.sets l.sets;
  noted : AreNoted (lowest_in l.lowest.items) l.youngest l.sets (copies_of (take l.i l.blocks));
}
