use Rattle.std.proofs.Common.{arith, rules}
use Rattle.std.proofs.lemmas.Grind.{common_steps}
use Rattle.idle_count.proofs.verdict.Verdict.new.Goals as goal

pub loop-init : goal.loop-init
loop-init c = search rules

pub returns-clause-count : goal.returns-clause-count
returns-clause-count c = search rules

pub invariant_of-push_reserved : goal.invariant_of-push_reserved
invariant_of-push_reserved c = search rules

pub loop-preserved : goal.loop-preserved
loop-preserved c = grind (arith, common_steps)
