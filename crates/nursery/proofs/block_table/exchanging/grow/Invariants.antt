use Rattle.std.proofs.Common.{◌≡◌, ℕ, ◌≤◌, ◌-◌, get_or, None, length, max}
use Rattle.nursery.proofs.block_table.exchanging.grow.Given as goal

abbrev pub invariant-loop-table : goal.invariant-loop-table
invariant-loop-table g l = record {
  same : (n : ℕ) → get_or l.table.items n None ≡ get_or l.fn.table.items n None;
  no_shorter : length l.fn.table.items ≤ length l.table.items;
  no_longer : length l.table.items ≤ max l.len (length l.fn.table.items);
}

abbrev pub decreases-loop-table : goal.decreases-loop-table
decreases-loop-table g l = l.len - length l.table.items
