use Rattle.std.proofs.Common.{rules}
use Rattle.pending_queues.proofs.plain_queues.plain_pending.PlainSeat.index.Goals as goal

pub returns : goal.returns
returns c = search rules
