use Rattle.std.proofs.Common.{rules}
use Rattle.scavenge.proofs.workspace.workspace.Workspace.aside.Goals as goal

pub returns-clause-worker : goal.returns-clause-worker
returns-clause-worker g c = search rules

pub returns-clause-block : goal.returns-clause-block
returns-clause-block g c = search rules
