use Rattle.std.proofs.Common.{◌∙◌, ap}
use Rattle.pending_queues.proofs.PlainLists.{pending_of, all_empty}
use Rattle.pending_queues.proofs.plain_queues.plain_pending.PlainPending.empty.Goals as goal

pub returns : goal.returns
returns g c = ap (λ k. pending_of k c.in_ok-queues.queues.items) c.of-key.ensures ∙ all_empty _ _ _ c.in_ok-queues.ensures
