use Rattle.std.proofs.Common.{rules}
use Rattle.idle_count.proofs.verdict.Verdict.compare.Goals as goal

pub returns-clause-one : goal.returns-clause-one
returns-clause-one c = search rules
