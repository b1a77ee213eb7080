use Rattle.std.proofs.Common.{true, false, sym, ◌∙◌, arith}
use Rattle.model.specs.Graph.{object_at}
use Rattle.model.specs.Census.{points_younger}
use Rattle.heap_objects.proofs.LargeCounts.{count_next, count_end}
use Rattle.heap_objects.proofs.LargeReads.{in_use}
use Rattle.heap_objects.proofs.heap_graph.remembered.count_large.Goals as goal
use Rattle.heap_objects.proofs.heap_graph.remembered.count_large.Goals.{then-large_points_younger, else-large_points_younger}

pub loop-number-preserved : goal.loop-number-preserved
loop-number-preserved g c =
    let first = c.in-Some.ensures in
    let object = in_use c.args.large.now c.in-Some.number.number first.in_use in
    let few = c.loop-number.invariant.few in
    let from = first.from_on in
    elim c.if-large_points_younger.branch [
      | then-large_points_younger w ↦
          rw w.count-is (record {
            few = omega (arith, few, from);
            in_range = omega (arith, c.in-Some.number.in_range);
            value = λ graph shows.
                omega (
                  arith,
                  c.loop-number.invariant.value graph shows,
                  count_next (points_younger (object_at graph)) c.args.large.now.slots c.loop-number.from c.in-Some.number.number object.0 true from first.lowest object.1 (sym (c.large_points_younger.ensures graph object.0 shows object.1) ∙ w.if-large_points_younger.true),
                );
          })
      | else-large_points_younger w ↦
          rw w.count-is (record {
            few = omega (arith, few, from);
            in_range = omega (arith, c.in-Some.number.in_range);
            value = λ graph shows.
                omega (
                  arith,
                  c.loop-number.invariant.value graph shows,
                  count_next (points_younger (object_at graph)) c.args.large.now.slots c.loop-number.from c.in-Some.number.number object.0 false from first.lowest object.1 (sym (c.large_points_younger.ensures graph object.0 shows object.1) ∙ w.if-large_points_younger.false),
                );
          })
    ]

pub returns-clause-value : goal.returns-clause-value
returns-clause-value g c = λ graph shows.
    c.loop-number.invariant.value graph shows ∙ count_end (points_younger (object_at graph)) c.args.large.now.slots c.loop-number.from c.in_default.ensures
