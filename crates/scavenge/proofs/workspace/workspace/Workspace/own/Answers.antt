use Rattle.std.proofs.Common.{rules}
use Rattle.scavenge.proofs.workspace.workspace.Workspace.own.Goals as goal

pub returns : goal.returns
returns g c = search rules
