use Rattle.std.proofs.Common.{◌-◌}
use Rattle.nursery.specs.Areas.{is_flagged}
use Rattle.nursery.proofs.Numbers.{HasNumbers}
use Rattle.nursery.proofs.block_table.counts.young_blocks.Given as goal

abbrev pub invariant-loop-number : goal.invariant-loop-number
invariant-loop-number g l = record {
  so_far : HasNumbers (is_flagged l.areas l.generation) 0 l.next l.numbers.items;
}

abbrev pub decreases-loop-number : goal.decreases-loop-number
decreases-loop-number g l = 65535 - l.next
