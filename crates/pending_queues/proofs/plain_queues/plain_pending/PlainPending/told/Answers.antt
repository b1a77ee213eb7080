use Rattle.std.proofs.Common.{◌∙◌}
use Rattle.pending_queues.proofs.PlainLists.{all_told}
use Rattle.pending_queues.proofs.plain_queues.plain_pending.PlainPending.told.Goals as goal

pub returns : goal.returns
returns g c = c.from_lists.ensures ∙ all_told _ _ _ _ _ _ c.loop-queue.invariant.told c.deref-queue-items.ensures.value c.loop-queue-test.false c.self.view_is
