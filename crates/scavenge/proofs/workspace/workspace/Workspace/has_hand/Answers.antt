use Rattle.std.proofs.Common.{rules}
use Rattle.scavenge.proofs.workspace.workspace.Workspace.has_hand.Goals as goal

pub returns : goal.returns
returns g c = search rules
