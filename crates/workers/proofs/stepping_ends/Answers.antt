use Rattle.workers.proofs.Reached.{reached_finishes}
use Rattle.workers.proofs.stepping_ends.Goals as goal

pub returns : goal.returns
returns c = reached_finishes
