use Rattle.model.proofs.LiveLemmas.{LiveWords-one}
use Rattle.model.proofs.laws.live_words_are_one.Goals as goal

pub returns : goal.returns
returns c = LiveWords-one
