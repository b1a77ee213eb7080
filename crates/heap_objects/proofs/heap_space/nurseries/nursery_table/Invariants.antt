use Rattle.std.proofs.Common.{◌≡◌, ℕ, ◌<◌, length, get_or, Some, None}
use Rattle.heap_objects.specs.Nursery.{empty_block}
use Rattle.heap_objects.proofs.heap_space.nurseries.nursery_table.Given as goal

abbrev pub invariant-loop-number : goal.invariant-loop-number
invariant-loop-number g l = record {
  len : length l.table.items ≡ l.number;
  blocks : (n : ℕ) → n < l.number → get_or l.table.items n None ≡ Some (empty_block n l.words);
}
