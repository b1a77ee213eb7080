use Rattle.std.proofs.Common.{rules}
use Rattle.trace_text.proofs.words.is_blank.Goals as goal

pub returns-else-byte-eq32 : goal.returns-else-byte-eq32
returns-else-byte-eq32 c = search rules
