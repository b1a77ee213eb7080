use Rattle.std.proofs.Common.{rules}
use Rattle.layout.proofs.object.ObjectRef.size.Goals as goal

pub returns : goal.returns
returns c = search rules
