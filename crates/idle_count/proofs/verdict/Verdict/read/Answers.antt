use Rattle.std.proofs.Common.{rules}
use Rattle.idle_count.proofs.verdict.Verdict.read.Goals as goal

pub invariant_of-seat : goal.invariant_of-seat
invariant_of-seat c = search rules

pub returns-clause-stands : goal.returns-clause-stands
returns-clause-stands c = search rules
