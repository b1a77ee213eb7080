use Rattle.std.proofs.Common.{rules}
use Rattle.reference.proofs.reference_data.config.Config.dest.Goals as goal

pub returns-else-step-saturating_sub : goal.returns-else-step-saturating_sub
returns-else-step-saturating_sub c = search rules
