use Rattle.std.proofs.Common.{◌≡◌, length}
use Rattle.heap_text.proofs.Growing.{HoldsAllBut}
use Rattle.heap_text.proofs.byte_streams.sink.write_all.Given as goal

abbrev pub invariant-loop-rest : goal.invariant-loop-rest
invariant-loop-rest g l = record {
  bytes : HoldsAllBut (g.W.Sink.output l.fn.writer) (g.W.Sink.output l.writer) l.bytes l.rest;
  failed : g.W.Sink.failed_writes l.writer ≡ g.W.Sink.failed_writes l.fn.writer;
}

abbrev pub decreases-loop-rest : goal.decreases-loop-rest
decreases-loop-rest g l = length l.rest
