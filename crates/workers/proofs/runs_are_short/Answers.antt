use Rattle.workers.proofs.Reached.{reached_short}
use Rattle.workers.proofs.runs_are_short.Goals as goal

pub returns : goal.returns
returns c = reached_short
