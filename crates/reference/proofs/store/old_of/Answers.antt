use Rattle.std.proofs.Common.{rules}
use Rattle.reference.proofs.store.old_of.Goals as goal

pub returns-in-Some : goal.returns-in-Some
returns-in-Some g c = search rules
