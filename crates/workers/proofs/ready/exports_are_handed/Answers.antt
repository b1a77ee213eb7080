use Rattle.workers.proofs.ReadyRuns.{exports_handed}
use Rattle.workers.proofs.ready.exports_are_handed.Goals as goal

pub returns : goal.returns
returns c = exports_handed
