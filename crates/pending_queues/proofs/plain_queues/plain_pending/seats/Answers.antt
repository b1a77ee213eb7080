use Rattle.std.proofs.Common.{rules, ◌∙◌, ◌++◌, ◌∷◌, [], ap}
use Rattle.pending_queues.proofs.PlainLists.{range_next}
use Rattle.pending_queues.proofs.plain_queues.plain_pending.seats.Goals as goal

pub loop-index-preserved : goal.loop-index-preserved
loop-index-preserved g c = record {
  room = search rules;
  made = c.push_reserved.ensures.items ∙ ap (λ l. l ++ c.loop-index.index ∷ []) c.loop-index.invariant.made ∙ range_next c.loop-index.index;
  many = search rules;
}
