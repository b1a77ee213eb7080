use Rattle.std.proofs.Common.{rules}
use Rattle.pending_queues.proofs.ruled_pending.RuledPending.take.Goals as goal

pub returns-then-exporter-index-clause-taken : goal.returns-then-exporter-index-clause-taken
returns-then-exporter-index-clause-taken g c = search rules

pub loop-preserved : goal.loop-preserved
loop-preserved g c = search rules
