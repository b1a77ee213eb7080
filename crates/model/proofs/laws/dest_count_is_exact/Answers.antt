use Rattle.model.proofs.DestCount.{dest_count_exact}
use Rattle.model.proofs.laws.dest_count_is_exact.Goals as goal

pub returns : goal.returns
returns c = dest_count_exact
