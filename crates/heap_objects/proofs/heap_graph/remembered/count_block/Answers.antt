use Rattle.std.proofs.Common.{◌<◌, true, false, map, length, sym, ap, ◌∙◌, arith, take_all}
use Rattle.std.specs.Prelude.{count_by, nat_lt}
use Rattle.std.specs.List.{list_any}
use Rattle.model.specs.Graph.{object_at}
use Rattle.model.specs.Census.{points_to, points_younger}
use Rattle.layout.specs.ObjectRef.{raw_of}
use Rattle.layout.specs.Place.{small_word}
use Rattle.steps.specs.BlockObjects.{block_objects}
use Rattle.steps.specs.Words.{target_of_word}
use Rattle.heap_objects.proofs.GraphObjects.{closed_object}
use Rattle.heap_objects.proofs.FieldSlots.{length-entries}
use Rattle.heap_objects.proofs.Remembering.{count-more}
use Rattle.heap_objects.proofs.heap_graph.remembered.count_block.Goals as goal
use Rattle.heap_objects.proofs.heap_graph.remembered.count_block.Goals.{then-points_below, else-points_below}

pub loop-k-preserved : goal.loop-k-preserved
loop-k-preserved g c =
    let block = c.args.block.now in
    let k = c.loop-k.k in
    let raw = raw_of c.object.result in
    let lt : k < length block.objects = omega (arith, c.loop-k-test.true, c.len-k-end.ensures.value) in
    elim c.if-points_below.branch [
      | then-points_below w ↦
          rw w.count-is (record {
            few = omega (arith, c.loop-k.invariant.few);
            value = λ graph number shows there.
                let closed = closed_object graph c.args.table.now c.args.large.now c.requires.short shows number k block raw there c.object.ensures.object in
                let here = sym (c.points_below.ensures graph shows closed ∙ ap (λ h. list_any (points_to (λ target. nat_lt target.generation h) (object_at graph)) (map target_of_word raw.pointers)) c.generation.ensures) ∙ w.if-points_below.true in
                omega (arith, c.loop-k.invariant.value graph number shows there, count-more (points_younger (object_at graph)) number block k raw true c.object.ensures.object lt here);
          })
      | else-points_below w ↦
          rw w.count-is (record {
            few = omega (arith, c.loop-k.invariant.few);
            value = λ graph number shows there.
                let closed = closed_object graph c.args.table.now c.args.large.now c.requires.short shows number k block raw there c.object.ensures.object in
                let here = sym (c.points_below.ensures graph shows closed ∙ ap (λ h. list_any (points_to (λ target. nat_lt target.generation h) (object_at graph)) (map target_of_word raw.pointers)) c.generation.ensures) ∙ w.if-points_below.false in
                omega (arith, c.loop-k.invariant.value graph number shows there, count-more (points_younger (object_at graph)) number block k raw false c.object.ensures.object lt here);
          })
    ]

pub returns-clause-value : goal.returns-clause-value
returns-clause-value g c = λ graph number shows there.
    let block = c.args.block.now in
    c.loop-k.invariant.value graph number shows there
    ∙ ap (λ es. count_by (points_younger (object_at graph)) (map (λ e. e.1) es))
    (take_all c.loop-k.k (block_objects number block)
    (omega (arith, length-entries (small_word number 0) block.generation block.step block.objects, c.loop-k-test.false, c.len-k-end.ensures.value)))
