use Rattle.workers.proofs.Reached.{reached_bounded}
use Rattle.workers.proofs.measure_is_bounded.Goals as goal

pub returns : goal.returns
returns c = reached_bounded
