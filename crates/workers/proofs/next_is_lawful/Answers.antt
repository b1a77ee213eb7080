use Rattle.workers.proofs.Reached.{reached_next}
use Rattle.workers.proofs.next_is_lawful.Goals as goal

pub returns : goal.returns
returns c = reached_next
