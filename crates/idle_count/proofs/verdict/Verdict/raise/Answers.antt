use Rattle.std.proofs.Common.{rules}
use Rattle.idle_count.proofs.verdict.Verdict.raise.Goals as goal

pub returns-in-Some-clause-seat : goal.returns-in-Some-clause-seat
returns-in-Some-clause-seat c = search rules

pub returns-in-Some-clause-stands : goal.returns-in-Some-clause-stands
returns-in-Some-clause-stands c = search rules

pub invariant_of-seat : goal.invariant_of-seat
invariant_of-seat c = search rules

pub returns-clause-seat : goal.returns-clause-seat
returns-clause-seat c = search rules

pub returns-clause-won : goal.returns-clause-won
returns-clause-won c = search rules
