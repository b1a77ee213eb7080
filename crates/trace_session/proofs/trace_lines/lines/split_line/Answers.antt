use Rattle.std.proofs.Common.{rules}
use Rattle.trace_session.proofs.trace_lines.lines.split_line.Goals as goal

pub returns-then-byte-eq10-clause-some : goal.returns-then-byte-eq10-clause-some
returns-then-byte-eq10-clause-some c = search rules
