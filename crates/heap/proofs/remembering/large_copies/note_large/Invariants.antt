use Rattle.std.proofs.Common.{ℕ, ◌<◌, ◌≤◌, ◌-◌}
use Rattle.heap.specs.Growth.{AreGrown}
use Rattle.heap.specs.Noted.{IsLargeNoted}
use Rattle.heap.proofs.remembering.large_copies.note_large.Given as goal

-- the large objects so far are noted
abbrev pub invariant-loop-of : goal.invariant-loop-of
invariant-loop-of g l = record {
  grown : AreGrown l.fn.sets l.sets;
  low : l.from ≤ 65535;
  noted : (number : ℕ) → number < l.from → IsLargeNoted l.youngest l.sets l.objects l.collection.generation l.places number;
}

abbrev pub decreases-loop-of : goal.decreases-loop-of
decreases-loop-of g l = 65535 - l.from
