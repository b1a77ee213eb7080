use Rattle.std.proofs.Common.{refl}
use Rattle.pending_queues.proofs.exports.deliveries.Deliveries.from_lists.Goals as goal

pub returns : goal.returns
returns g c = refl
