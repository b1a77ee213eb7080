use Rattle.std.proofs.Common.{rules}
use Rattle.reference.proofs.store.Store.add_sized.Goals as goal

pub returns-in_ok-add_object : goal.returns-in_ok-add_object
returns-in_ok-add_object g c = search rules
