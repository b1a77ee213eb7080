use Rattle.std.proofs.Common.{rules}
use Rattle.trace_text.proofs.words.three_words.Goals as goal

pub returns-clause-ok : goal.returns-clause-ok
returns-clause-ok c = search rules
