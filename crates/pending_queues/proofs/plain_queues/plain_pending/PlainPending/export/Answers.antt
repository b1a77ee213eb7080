use Rattle.std.proofs.Common.{◌≡◌}
use Rattle.pending_queues.proofs.PlainLists.{export_ends}
use Rattle.pending_queues.proofs.plain_queues.plain_pending.PlainPending.export.Goals as goal

pub returns-clause-pending : goal.returns-clause-pending
returns-clause-pending g c = export_ends (λ e. e.0 ≡ c.args.block) _ _ _ _ _ _ _ c.args.block _ c.seat.view_is c.requires.seat c.index_mut.ensures.value c.self.view_is c.push.ensures
