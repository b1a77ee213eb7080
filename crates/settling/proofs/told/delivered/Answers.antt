use Rattle.std.proofs.Common.{◌≡◌, min, get_or, sym, ap, ◌∙◌, arith, rules}
use Rattle.std.specs.Prelude.{unwrap_or}
use Rattle.pending_queues.specs.declared.exports.deliveries.Delivery.{Delivery as Outcome}
use Rattle.settling.proofs.SettleLists.{saturated}
use Rattle.settling.proofs.ToldLists.{untold, told_more, told_all}
use Rattle.settling.proofs.told.delivered.Goals as goal

pub loop-export-preserved : goal.loop-export-preserved
loop-export-preserved g c =
    let export : Outcome = get_or c.args.exports.now c.loop-export.export-index untold in
    let position : c.len.result ≡ c.loop-export.export-index = omega (arith, c.len.ensures, c.loop-export.invariant.many, c.loop-export.deliveries.ok) in
    let objects : c.unwrap_or.result ≡ min export.objects 4294967295 = c.unwrap_or.ensures ∙ saturated export.objects c.try_from.result c.try_from.ensures in
    let taker : c.in-Some.taker ≡ unwrap_or export.taker 0 = ap (λ o. unwrap_or o 0) (sym c.in-Some.is) in
    record {
      room = search rules;
      many = search rules;
      told =
          rw c.push_reserved.ensures.items (told_more c.args.exporter c.args.exports.now c.loop-export.deliveries.items _ c.loop-export.export-index c.loop-export-test.true
          (ap (λ p. record { exporter = c.args.exporter; position = p; objects = c.unwrap_or.result; taker = c.in-Some.taker }) position
          ∙ ap (λ o. record { exporter = c.args.exporter; position = c.loop-export.export-index; objects = o; taker = c.in-Some.taker }) objects
          ∙ ap (λ t. record { exporter = c.args.exporter; position = c.loop-export.export-index; objects = min export.objects 4294967295; taker = t }) taker)
          c.loop-export.invariant.told);
    }

pub returns : goal.returns
returns g c = c.loop-export.invariant.told ∙ told_all c.args.exporter c.args.exports.now c.loop-export.export-index (omega (arith, c.loop-export-test.false))
