use Rattle.std.proofs.Common.{rules}
use Rattle.heap_text.proofs.byte_streams.source.CountedReaderSource.read.Goals as goal

pub returns-in-Err-clause-err : goal.returns-in-Err-clause-err
returns-in-Err-clause-err g c = search rules
