use Rattle.workers.proofs.Reached.{reached_comes}
use Rattle.workers.proofs.lawful_comes.Goals as goal

pub returns : goal.returns
returns c = reached_comes
