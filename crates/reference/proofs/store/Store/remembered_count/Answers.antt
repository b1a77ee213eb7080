use Rattle.std.proofs.Common.{◌∙◌}
use Rattle.reference.proofs.PlainLemmas.{count-remembered}
use Rattle.reference.proofs.store.Store.remembered_count.Goals as goal

pub returns : goal.returns
returns g c = c.slots_remembered.ensures ∙ count-remembered c.args.self.now c.args.self.now.objects
