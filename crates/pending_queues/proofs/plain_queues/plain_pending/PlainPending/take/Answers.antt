use Rattle.pending_queues.proofs.PlainLists.{take_ends}
use Rattle.pending_queues.proofs.plain_queues.plain_pending.PlainPending.take.Goals as goal

pub returns-clause-pending : goal.returns-clause-pending
returns-clause-pending g c = take_ends _ _ _ _ _ _ _ _ _ c.seat.view_is c.requires c.index_mut.ensures.value c.self.view_is c.pop.ensures.lane
