use Rattle.std.proofs.Common.{◌≡◌, ℕ, ◌+◌, ◌*◌, ◌<◌, ◌≤◌, true, length}
use Rattle.nursery.specs.Areas.{holds_young}
use Rattle.nursery.specs.Counts.{HasCounted}
use Rattle.nursery.specs.Table.{slot_at, young_table}
use Rattle.nursery.proofs.block_table.counts.count_run.Given as goal

abbrev pub invariant-loop-slot : goal.invariant-loop-slot
invariant-loop-slot g l = record {
  reached : length l.bases.items ≡ length l.initial.bases.items + l.slot-index;
  in_table : length l.bases.items ≤ length l.table;
  young : (b : ℕ) → length l.initial.bases.items ≤ b → b < length l.bases.items → holds_young l.generation (slot_at l.table b) ≡ true;
  counted : HasCounted (young_table l.generation l.table) l.bases.items l.objects;
  few : l.objects ≤ length l.bases.items * 512;
}
