use Rattle.workers.proofs.ReadyRuns.{run_ready}
use Rattle.workers.proofs.ready.run_is_ready.Goals as goal

pub returns : goal.returns
returns c = run_ready
