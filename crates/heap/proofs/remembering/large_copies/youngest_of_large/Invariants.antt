use Rattle.std.proofs.Common.{ℕ, ◌<◌, ◌≤◌, ◌-◌}
use Rattle.heap.specs.Noted.{IsLargeFrom, AreLargeFrom}
use Rattle.heap.proofs.remembering.large_copies.youngest_of_large.Given as goal

-- none of the large objects so far goes to a younger generation, and no bound of all of them is above
abbrev pub invariant-loop-of : goal.invariant-loop-of
invariant-loop-of g l = record {
  most : l.youngest ≤ l.most;
  low : l.from ≤ 65535;
  large : (number : ℕ) → number < l.from → IsLargeFrom l.youngest l.objects l.collection.generation l.places number;
  greatest : (bound : ℕ) → bound ≤ l.most → AreLargeFrom bound l.objects l.collection.generation l.places → bound ≤ l.youngest;
}

abbrev pub decreases-loop-of : goal.decreases-loop-of
decreases-loop-of g l = 65535 - l.from
