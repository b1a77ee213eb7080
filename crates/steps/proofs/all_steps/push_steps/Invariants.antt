use Rattle.std.proofs.Common.{◌≡◌, ◌+◌, ◌++◌, map, length}
use Rattle.steps.specs.StepPairs.{step_pair}
use Rattle.steps.proofs.Numbers.{steps_at}
use Rattle.steps.proofs.all_steps.push_steps.Given as goal

-- the steps before this one stand at the end
abbrev pub invariant-loop-step : goal.invariant-loop-step
invariant-loop-step l = record {
  pushed : map step_pair l.found.items ≡ map step_pair l.fn.found.items ++ steps_at l.generation l.step;
  len : length l.found.items ≡ length l.fn.found.items + l.step;
}
