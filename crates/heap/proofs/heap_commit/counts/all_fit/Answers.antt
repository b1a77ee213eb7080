use Rattle.std.proofs.Common.{arith, rules}
use Rattle.std.proofs.lemmas.Grind.{common_steps}
use Rattle.heap.proofs.heap_commit.counts.all_fit.Goals as goal

pub loop-block-preserved : goal.loop-block-preserved
loop-block-preserved g c = grind (arith, common_steps)

pub returns : goal.returns
returns g c = search rules
