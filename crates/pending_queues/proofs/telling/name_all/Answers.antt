use Rattle.std.proofs.Common.{◌∙◌, All, ap, length, map}
use Rattle.pending_queues.specs.Written.{with_takers}
use Rattle.pending_queues.specs.Delivered.{IsLabelledBelow}
use Rattle.pending_queues.proofs.TellingLists.{named_next}
use Rattle.pending_queues.proofs.Seating.{one_more}
use Rattle.pending_queues.proofs.telling.name_all.Goals as goal

pub loop-seat-preserved : goal.loop-seat-preserved
loop-seat-preserved g c = (
  named_next _ _ _ _ c.loop-seat.seat-index c.seat-item.result c.loop-seat-test.true c.loop-seat.invariant.0
      (c.name_takes.ensures.told ∙ ap (λ s. with_takers c.loop-seat.deliveries s.index (map (λ b. b.sent) s.taken)) c.seat-item.is),
  one_more (λ s. All (IsLabelledBelow (length s.source.lanes)) s.taken) c.args.seats.now c.loop-seat.seat-index c.seat-item.result c.seat-item.is
      c.loop-seat-test.true c.loop-seat.invariant.1 c.name_takes.ensures.labels,
)
