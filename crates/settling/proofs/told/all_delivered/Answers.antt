use Rattle.std.proofs.Common.{◌++◌, ap, ◌∙◌, arith}
use Rattle.settling.specs.Telling.{deliveries_of}
use Rattle.settling.proofs.ToldLists.{first_deliveries, lists_more, lists_all}
use Rattle.settling.proofs.told.all_delivered.Goals as goal

pub loop-exporter-preserved : goal.loop-exporter-preserved
loop-exporter-preserved g c =
    record {
      told = c.in_ok-append.ensures.items ∙ ap (λ xs. xs ++ c.in_ok-more.more.items) c.loop-exporter.invariant.told
          ∙ ap (λ xs. first_deliveries c.args.told.now c.loop-exporter.exporter ++ xs) (c.in_ok-more.ensures ∙ ap (deliveries_of c.loop-exporter.exporter) c.of.ensures)
          ∙ lists_more c.args.told.now c.loop-exporter.exporter (omega (arith, c.requires.many, c.loop-exporter-test.true));
    }

pub returns : goal.returns
returns g c = c.loop-exporter.invariant.told ∙ lists_all c.args.told.now c.loop-exporter.exporter (omega (arith, c.requires.many, c.loop-exporter-test.false))
