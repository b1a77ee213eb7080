use Rattle.std.proofs.Common.{◌∙◌, ap, set}
use Rattle.pending_queues.specs.Telling.{all_left}
use Rattle.pending_queues.proofs.TellingLists.{placed_next}
use Rattle.pending_queues.proofs.telling.tell_all.Goals as goal

pub loop-seat-preserved : goal.loop-seat-preserved
loop-seat-preserved g c = record {
  told = placed_next _ _ _ _ c.loop-seat.seat-index c.seat-item.result c.loop-seat-test.true c.loop-seat.invariant.told
      (c.in_ok-tell_exports.ensures.told ∙ ap (λ s. set c.loop-seat.deliveries s.index (all_left s.sent)) c.seat-item.is);
  many = c.in_ok-tell_exports.ensures.many ∙ c.loop-seat.invariant.many;
}
