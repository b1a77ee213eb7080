use Rattle.workers.proofs.Reached.{reached_none}
use Rattle.workers.proofs.ended_has_no_next.Goals as goal

pub returns : goal.returns
returns c = reached_none
