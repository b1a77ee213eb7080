use Rattle.std.proofs.Common.{rules}
use Rattle.reference.proofs.store.Store.forget.Goals as goal

pub returns : goal.returns
returns g c = search rules
