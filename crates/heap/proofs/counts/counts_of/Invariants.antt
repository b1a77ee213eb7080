use Rattle.std.proofs.Common.{◌≡◌, length, map, take}
use Rattle.std.specs.FinMap.{values}
use Rattle.model.specs.Census.{step_count}
use Rattle.steps.specs.StepPairs.{step_pair}
use Rattle.steps.specs.CensusView.{step_value}
use Rattle.heap.proofs.counts.counts_of.Given as goal

-- the steps before this one are counted
abbrev pub invariant-loop-number : goal.invariant-loop-number
invariant-loop-number g l = record {
  counted : map step_value l.counts.items ≡ map (step_count l.objects.config.block_words (values l.objects.objects)) (map step_pair (take l.number l.steps));
  len : length l.counts.items ≡ l.number;
}
