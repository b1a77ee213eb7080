use Rattle.workers.proofs.Reached.{young_covers}
use Rattle.workers.proofs.young_names_cover.Goals as goal

pub returns : goal.returns
returns c = young_covers
