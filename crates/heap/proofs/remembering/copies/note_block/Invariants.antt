use Rattle.std.proofs.Common.{ℕ, ◌<◌}
use Rattle.heap.specs.Growth.{AreGrown}
use Rattle.heap.specs.Lowest.{lowest_in}
use Rattle.heap.specs.Noted.{IsNotedAt}
use Rattle.heap.proofs.remembering.copies.note_block.Given as goal

-- the objects so far are noted
abbrev pub invariant-loop-k : goal.invariant-loop-k
invariant-loop-k g l = record {
  grown : AreGrown l.fn.sets l.sets;
  noted : (k : ℕ) → k < l.k → IsNotedAt (lowest_in l.lowest) l.youngest l.sets l.block k;
}
