use Rattle.std.proofs.Common.{◌∙◌}
use Rattle.reference.proofs.PlainLemmas.{words-part}
use Rattle.reference.proofs.store.Store.words_in.Goals as goal

pub returns : goal.returns
returns g c = c.slot_words_in.ensures ∙ words-part c.args.config.now.block_words c.args.part c.args.self.now.objects
