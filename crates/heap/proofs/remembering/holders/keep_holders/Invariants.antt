use Rattle.std.proofs.Common.{◌≡◌, ℕ, ◌<◌, ◌≤◌, length}
use Rattle.std.specs.Prelude.{◌↔◌, IsTrue, nat_eq}
use Rattle.std.specs.List.{IsDistinct}
use Rattle.model.specs.Reached.{has}
use Rattle.steps.specs.Remembered.{is_holder}
use Rattle.heap_objects.specs.Objects.{graph_in}
use Rattle.remembered_set.specs.Sets.{members_of}
use Rattle.heap.proofs.remembering.holders.keep_holders.Given as goal

-- the sets before this one are done
abbrev pub invariant-loop-h : goal.invariant-loop-h
invariant-loop-h g l = record {
  generations : length l.sets ≡ length l.fn.sets;
  members : (h n : ℕ) → h < l.h → IsTrue (has (members_of l.sets h) n) ↔ (IsTrue (has (members_of l.fn.sets h) n) × IsTrue (is_holder (graph_in l.objects) h n));
  once : (h : ℕ) → h < l.h → IsDistinct nat_eq (members_of l.sets h);
  after : (h : ℕ) → l.h ≤ h → members_of l.sets h ≡ members_of l.fn.sets h;
}
