use Rattle.std.proofs.Common.{◌∙◌}
use Rattle.reference.proofs.PlainLemmas.{count-part}
use Rattle.reference.proofs.store.Store.count_in.Goals as goal

pub returns : goal.returns
returns g c = c.slots_in.ensures ∙ count-part c.args.config.now.block_words c.args.part c.args.self.now.objects
