use Rattle.std.proofs.Common.{◌≡◌, ◌*◌, map, length}
use Rattle.steps.specs.StepPairs.{step_pair}
use Rattle.steps.proofs.Numbers.{steps_below}
use Rattle.steps.proofs.config.Config.all_steps.Given as goal

-- the steps of the generations before this one are there
abbrev pub invariant-loop-generation : goal.invariant-loop-generation
invariant-loop-generation l = record {
  found : map step_pair l.found.items ≡ steps_below l.generation l.steps;
  len : length l.found.items ≡ l.generation * l.steps;
}
