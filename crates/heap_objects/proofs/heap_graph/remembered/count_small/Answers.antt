use Rattle.std.proofs.Common.{map, ap, ◌∙◌, arith, take_all}
use Rattle.std.specs.Prelude.{count_by}
use Rattle.model.specs.Graph.{object_at}
use Rattle.model.specs.Census.{points_younger}
use Rattle.nursery.specs.Table.{table_objects}
use Rattle.heap_objects.proofs.Remembering.{count-blocks_more}
use Rattle.heap_objects.proofs.heap_graph.remembered.count_small.Goals as goal

pub loop-number-preserved : goal.loop-number-preserved
loop-number-preserved g c = record {
  few = omega (arith, c.loop-number.invariant.few, c.count_older-count.ensures.few);
  value = λ graph shows.
      omega (arith, c.loop-number.invariant.value graph shows, c.count_older-count.ensures.value graph shows, count-blocks_more (points_younger (object_at graph)) c.args.table.now c.loop-number.number c.loop-number-test.true);
}

pub returns-clause-value : goal.returns-clause-value
returns-clause-value g c = λ graph shows.
    c.loop-number.invariant.value graph shows
    ∙ ap (λ t. count_by (points_younger (object_at graph)) (map (λ e. e.1) (table_objects 0 t))) (take_all c.loop-number.number c.args.table.now c.loop-number-test.false)
