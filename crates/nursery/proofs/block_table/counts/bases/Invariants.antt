use Rattle.std.proofs.Common.{◌-◌, ◌*◌, ◌≤◌, length}
use Rattle.nursery.specs.Counts.{HasCounted}
use Rattle.nursery.specs.Table.{young_table}
use Rattle.nursery.proofs.block_table.counts.bases.Given as goal

abbrev pub invariant-loop-number : goal.invariant-loop-number
invariant-loop-number g l = record {
  so_far : HasCounted (young_table l.generation l.table) l.bases.items l.objects;
  few : l.objects ≤ length l.bases.items * 512;
  within : length l.bases.items ≤ length l.table;
}

abbrev pub decreases-loop-number : goal.decreases-loop-number
decreases-loop-number g l = length l.table - length l.bases.items
