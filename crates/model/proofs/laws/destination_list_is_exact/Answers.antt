use Rattle.model.proofs.Destinations.{destination_list_exact}
use Rattle.model.proofs.laws.destination_list_is_exact.Goals as goal

pub returns : goal.returns
returns c = destination_list_exact
