-- Where an object stands, as a pair of numbers.
use Rattle.std.specs.Prelude.{ℕ}
use Rattle.model.specs.Graph.{Object}
use Rattle.steps.specs.declared.step_id.StepId.{StepId}

abbrev pub step_pair : StepId → ℕ × ℕ
step_pair step = (step.generation, step.step)

abbrev pub stands_at : Object → ℕ × ℕ
stands_at object = (object.generation, object.step)
