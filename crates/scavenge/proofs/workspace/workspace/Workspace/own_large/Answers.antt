use Rattle.std.proofs.Common.{rules}
use Rattle.scavenge.proofs.workspace.workspace.Workspace.own_large.Goals as goal

pub returns-in-Some : goal.returns-in-Some
returns-in-Some g c = search rules
