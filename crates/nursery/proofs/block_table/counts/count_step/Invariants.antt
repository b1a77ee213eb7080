use Rattle.std.proofs.Common.{◌≡◌, ◌≤◌, ◌*◌, take, sum_by}
use Rattle.steps.specs.StepPairs.{step_pair}
use Rattle.nursery.specs.Table.{slot_len, slot_words}
use Rattle.nursery.proofs.StepBlocks.{step_table}
use Rattle.nursery.proofs.block_table.counts.count_step.Given as goal

abbrev pub invariant-loop-slot : goal.invariant-loop-slot
invariant-loop-slot g l = record {
  objects : l.objects ≡ sum_by slot_len (take l.slot-index (step_table (step_pair l.at) l.table));
  words : l.words ≡ sum_by slot_words (take l.slot-index (step_table (step_pair l.at) l.table));
  few : l.objects ≤ l.slot-index * 512;
  small : l.words ≤ l.slot-index * 512;
}
