use Rattle.model.proofs.ReachedList.{reached_list_exact}
use Rattle.model.proofs.laws.reached_list_is_exact.Goals as goal

pub returns : goal.returns
returns c = reached_list_exact
