use Rattle.std.proofs.Common.{rules}
use Rattle.layout.proofs.header.Header.pack.Goals as goal

pub returns-clause-word : goal.returns-clause-word
returns-clause-word c = search rules
