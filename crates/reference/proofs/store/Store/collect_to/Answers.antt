use Rattle.std.proofs.Common.{rules}
use Rattle.reference.proofs.store.Store.collect_to.Goals as goal

pub returns-clause-ok : goal.returns-clause-ok
returns-clause-ok g c = search rules
