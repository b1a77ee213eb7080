use Rattle.std.proofs.Common.{rules}
use Rattle.layout.proofs.object.ObjectRef.new.Goals as goal

pub returns-clause-ordinal : goal.returns-clause-ordinal
returns-clause-ordinal c = search rules
