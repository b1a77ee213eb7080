use Rattle.std.proofs.Common.{arith}
use Rattle.std.proofs.lemmas.Grind.{common_steps}
use Rattle.pending_queues.proofs.exports.deliveries.name_at.Goals as goal

pub returns-then-position-len : goal.returns-then-position-len
returns-then-position-len g c = grind (arith, common_steps)
