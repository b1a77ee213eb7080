use Rattle.std.proofs.Common.{rules}
use Rattle.pending_queues.proofs.seat.PendingSeat.index.Goals as goal

pub returns : goal.returns
returns g c = search rules
