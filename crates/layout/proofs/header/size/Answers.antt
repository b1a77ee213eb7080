use Rattle.std.proofs.Common.{rules}
use Rattle.layout.proofs.header.size.Goals as goal

pub returns : goal.returns
returns c = search rules
