use Rattle.std.proofs.Common.{rules}
use Rattle.steps.proofs.config.Config.generations.Goals as goal

pub returns-clause-value : goal.returns-clause-value
returns-clause-value c = search rules
