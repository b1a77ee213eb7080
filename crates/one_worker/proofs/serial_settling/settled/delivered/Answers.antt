use Rattle.std.proofs.Common.{◌≡◌, ℕ, min, None, map, get_or, sym, ap, ◌∙◌, arith, rules}
use Rattle.std.proofs.lemmas.List.{length-map, get_or-map}
use Rattle.pending_queues.specs.declared.exports.deliveries.Delivery.{Delivery}
use Rattle.settling.specs.OwnDeliveries.{own_delivery}
use Rattle.settling.proofs.SettleLists.{delivered_more, delivered_all, saturated}
use Rattle.one_worker.proofs.serial_settling.settled.delivered.Goals as goal

pub loop-export-preserved : goal.loop-export-preserved
loop-export-preserved g c =
    let none : Delivery = record { objects = 0; taker = None } in
    let size : ℕ = (get_or c.args.exports.now c.loop-export.export-index none).objects in
    let position : c.len.result ≡ c.loop-export.export-index = omega (arith, c.len.ensures, c.loop-export.invariant.many, c.loop-export.deliveries.ok) in
    let objects : c.unwrap_or.result ≡ min size 4294967295 = c.unwrap_or.ensures ∙ saturated size c.try_from.result c.try_from.ensures in
    record {
      room = search rules;
      many = search rules;
      told =
          rw c.push_reserved.ensures.items (delivered_more (map (λ e. e.objects) c.args.exports.now) c.loop-export.deliveries.items _ c.loop-export.export-index
          (omega (arith, length-map c.args.exports.now (λ e. e.objects), c.loop-export-test.true))
          (ap (λ p. record { exporter = 0; position = p; objects = c.unwrap_or.result; taker = 0 }) position
          ∙ ap (λ o. record { exporter = 0; position = c.loop-export.export-index; objects = o; taker = 0 }) objects
          ∙ ap (λ n. own_delivery (c.loop-export.export-index, n)) (sym (get_or-map (λ e. e.objects) c.args.exports.now c.loop-export.export-index none 0 c.loop-export-test.true)))
          c.loop-export.invariant.told);
    }

pub returns : goal.returns
returns g c = c.loop-export.invariant.told ∙ delivered_all (map (λ e. e.objects) c.args.exports.now) c.loop-export.export-index (omega (arith, length-map c.args.exports.now (λ e. e.objects), c.loop-export-test.false))
