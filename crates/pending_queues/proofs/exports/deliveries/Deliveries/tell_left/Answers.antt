use Rattle.std.proofs.Common.{◌∙◌, ap, map, set}
use Rattle.std.proofs.lemmas.List.{map-set}
use Rattle.pending_queues.specs.Written.{left}
use Rattle.pending_queues.proofs.exports.deliveries.Deliveries.tell_left.Goals as goal

pub returns-clause-told : goal.returns-clause-told
returns-clause-told g c =
    map-set (λ l. l.items) c.self.inside.lists.items c.args.exporter c.in_ok-self-inside.field-0
    ∙ ap (set (map (λ l. l.items) c.self.inside.lists.items) c.args.exporter) c.in_ok-self-inside.ensures
    ∙ ap (λ v. set v c.args.exporter (map left c.args.sizes.now)) c.self.view_is
