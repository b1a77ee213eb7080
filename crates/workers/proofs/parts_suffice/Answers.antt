use Rattle.workers.proofs.Kept.{kept}
use Rattle.workers.proofs.parts_suffice.Goals as goal

pub returns : goal.returns
returns c = kept
