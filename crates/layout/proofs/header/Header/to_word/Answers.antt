use Rattle.std.proofs.Common.{rules}
use Rattle.layout.proofs.header.Header.to_word.Goals as goal

pub returns : goal.returns
returns c = search rules
