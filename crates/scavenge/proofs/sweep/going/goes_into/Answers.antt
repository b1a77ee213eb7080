use Rattle.std.proofs.Common.{refl}
use Rattle.heap.specs.StepPairs.{step_pair}
use Rattle.scavenge.proofs.sweep.going.goes_into.Goals as goal

pub returns-then-is_only-clause-goes : goal.returns-then-is_only-clause-goes
returns-then-is_only-clause-goes c = (λ _. c.requires.only c.if-is_only.true (step_pair c.args.from), λ _. refl)
