use Rattle.std.proofs.Common.{◌≡◌, [], map, get_or, sym, ap, subst, ◌∙◌}
use Rattle.std.specs.Result.{IfOk}
use Rattle.pending_queues.specs.declared.exports.deliveries.Delivery.{Delivery as Outcome}
use Rattle.settling.specs.OwnDeliveries.{deliveries_of_sizes}
use Rattle.settling.proofs.SettleLists.{told_sizes}
use Rattle.one_worker.proofs.serial_settling.settled.exported.Goals as goal

pub returns : goal.returns
returns g c =
    subst (λ ns. IfOk c.delivered.result (λ v. v.items ≡ deliveries_of_sizes ns))
    (ap (map (λ (e : Outcome). e.objects)) (c.deref.ensures.value ∙ sym (ap (λ lists. get_or lists 0 []) c.in_ok-told.ensures)) ∙ told_sizes c.args.queues.lanes)
    c.delivered.ensures
