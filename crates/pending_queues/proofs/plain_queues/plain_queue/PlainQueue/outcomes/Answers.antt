use Rattle.std.proofs.Common.{rules, ◌∙◌, ap}
use Rattle.std.specs.Prelude.{length, map, slice_get}
use Rattle.pending_queues.proofs.PlainSteps.{copied_there, more_outcomes}
use Rattle.pending_queues.proofs.plain_queues.plain_queue.PlainQueue.outcomes.Goals as goal

pub loop-position-preserved : goal.loop-position-preserved
loop-position-preserved g c = (
  more_outcomes _ _ c.deref-objects-items.result.now c.loop-position.deliveries.items c.push_reserved.new.self.items c.loop-position.position 0 c.copied-taker.result
      (c.deref-objects-items.ensures.value ∙ c.self.invariant.sizes_sent ∙ ap (λ v. map (λ b. length b.objects) v.lane.sent) c.self.view_is)
      c.loop-position-test.true (c.copied-taker.ensures ∙ copied_there _ _ _ c.get.ensures.lookup.3 ∙ ap (λ l. slice_get l c.loop-position.position) (c.deref.ensures.value ∙ ap (λ v. v.lane.takers) c.self.view_is)) c.push_reserved.ensures.items c.loop-position.invariant.0,
  search rules,
  search rules,
)
