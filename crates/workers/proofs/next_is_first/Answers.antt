use Rattle.workers.proofs.Reached.{reached_first}
use Rattle.workers.proofs.next_is_first.Goals as goal

pub returns : goal.returns
returns c = reached_first
