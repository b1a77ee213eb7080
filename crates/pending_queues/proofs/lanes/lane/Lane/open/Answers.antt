use Rattle.std.proofs.Common.{rules}
use Rattle.pending_queues.proofs.lanes.lane.Lane.open.Goals as goal

pub returns : goal.returns
returns g c = search rules
