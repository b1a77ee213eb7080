use Rattle.workers.proofs.Reached.{reached_left}
use Rattle.workers.proofs.ended_is_done.Goals as goal

pub returns : goal.returns
returns c = reached_left
