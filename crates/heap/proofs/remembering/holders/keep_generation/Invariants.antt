use Rattle.std.proofs.Common.{◌≡◌, ◌≢◌, ℕ, ◌≤◌, true, length, drop}
use Rattle.model.specs.Reached.{has}
use Rattle.steps.specs.Remembered.{is_holder}
use Rattle.heap_objects.specs.Objects.{graph_in}
use Rattle.remembered_set.specs.Sets.{members_of}
use Rattle.heap.proofs.remembering.holders.keep_generation.Given as goal

-- the members from the place on are such objects
abbrev pub invariant-loop-k : goal.invariant-loop-k
invariant-loop-k g l = record {
  generations : length l.sets ≡ length l.fn.sets;
  others : (other : ℕ) → other ≢ l.h → members_of l.sets other ≡ members_of l.fn.sets other;
  in_range : l.k ≤ length (members_of l.sets l.h);
  members : (n : ℕ) → has (members_of l.sets l.h) n ≡ true → has (members_of l.fn.sets l.h) n ≡ true;
  kept : (n : ℕ) → has (members_of l.fn.sets l.h) n ≡ true → is_holder (graph_in l.objects) l.h n ≡ true → has (members_of l.sets l.h) n ≡ true;
  from : (n : ℕ) → has (drop l.k (members_of l.sets l.h)) n ≡ true → is_holder (graph_in l.objects) l.h n ≡ true;
}

abbrev pub decreases-loop-k : goal.decreases-loop-k
decreases-loop-k g l = l.k
