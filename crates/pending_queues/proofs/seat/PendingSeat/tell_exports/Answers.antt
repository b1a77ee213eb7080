use Rattle.std.proofs.Common.{◌≡◌, ◌∙◌, OnOk, ap, map, set, subst}
use Rattle.pending_queues.specs.Written.{left}
use Rattle.pending_queues.specs.Telling.{all_left}
use Rattle.pending_queues.proofs.TellingLists.{left_sizes}
use Rattle.pending_queues.proofs.seat.PendingSeat.tell_exports.Goals as goal

pub returns-clause-told : goal.returns-clause-told
returns-clause-told g c =
    let sizes = ap (map left) (c.deref.ensures.value ∙ c.self.invariant.sizes_are) ∙ left_sizes _ in
    let whole = ap (set c.args.deliveries.now c.self.inside.index) sizes ∙ ap (λ v. set c.args.deliveries.now v.index (all_left v.sent)) c.self.view_is in
    subst (λ l. OnOk c.tell_left.result (c.tell_left.new.self ≡ l)) whole c.tell_left.ensures.told
