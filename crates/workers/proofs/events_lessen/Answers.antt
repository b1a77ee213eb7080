use Rattle.workers.proofs.Reached.{reached_falls}
use Rattle.workers.proofs.events_lessen.Goals as goal

pub returns : goal.returns
returns c = reached_falls
