use Rattle.std.proofs.Common.{rules}
use Rattle.heap_text.proofs.Growing.{HoldsAllBut-more}
use Rattle.heap_text.proofs.byte_streams.sink.write_all.Goals as goal

pub loop-rest-preserved : goal.loop-rest-preserved
loop-rest-preserved g c = record {
  bytes = HoldsAllBut-more _ _ _ _ _ _ _ c.loop-rest.invariant.bytes c.in_ok-n.ensures.bytes c.split_at.ensures.back;
  failed = search rules;
}
