use Rattle.model.proofs.LiveLemmas.{LiveCount-one}
use Rattle.model.proofs.laws.live_count_is_one.Goals as goal

pub returns : goal.returns
returns c = LiveCount-one
