use Rattle.std.proofs.Common.{rules}
use Rattle.layout.proofs.header.is_large.Goals as goal

pub returns : goal.returns
returns c = search rules
