use Rattle.std.proofs.Common.{rules}
use Rattle.scavenge.proofs.workspace.hand.Hand.is_open.Goals as goal

pub returns-in-Open : goal.returns-in-Open
returns-in-Open g c = search rules
