use Rattle.std.proofs.Common.{arith}
use Rattle.std.proofs.lemmas.Grind.{common_steps}
use Rattle.pending_queues.proofs.exports.deliveries.left_blocks.Goals as goal

pub loop-objects-preserved : goal.loop-objects-preserved
loop-objects-preserved g c = grind (arith, common_steps)
