use Rattle.std.proofs.Common.{rules, ◌∙◌, ap}
use Rattle.std.specs.Prelude.{Some}
use Rattle.pending_queues.specs.Written.{with_name, with_taker}
use Rattle.pending_queues.proofs.WrittenLists.{items_set}
use Rattle.pending_queues.proofs.exports.deliveries.Deliveries.name_taker.Goals as goal

pub returns-then-from-len : goal.returns-then-from-len
returns-then-from-len g c =
    items_set (λ l. l.items) _ _ _ _ (λ l. with_name l c.args.label.position c.args.taker) (search rules) c.index_mut.ensures.value c.name_at.ensures
    ∙ ap (λ v. with_taker v c.args.taker (Some (c.args.label.exporter, c.args.label.position))) c.self.view_is
