use Rattle.std.proofs.Common.{rules}
use Rattle.heap_text.proofs.byte_streams.sink.CountedSink.write.Goals as goal

pub returns-in_default-clause-err : goal.returns-in_default-clause-err
returns-in_default-clause-err g c = search rules

pub returns-in-Ok-clause-bound : goal.returns-in-Ok-clause-bound
returns-in-Ok-clause-bound g c = search rules
