use Rattle.std.proofs.Common.{◌≡◌, ◌++◌, map}
use Rattle.model.specs.Destination.{numbers_from}
use Rattle.reference.proofs.census_text.push_steps.Given as goal

abbrev pub invariant-loop-step : goal.invariant-loop-step
invariant-loop-step g l = l.found.items ≡ l.fn.found.items ++ map (λ s. (l.generation, s)) (numbers_from 0 l.step)
