use Rattle.std.proofs.Common.{◌≡◌, ◌+◌, ◌++◌, map, sym, ap, ◌∙◌, arith}
use Rattle.std.specs.Prelude.{count_by}
use Rattle.model.specs.Graph.{object_at}
use Rattle.model.specs.Census.{points_younger}
use Rattle.steps.proofs.Values.{values_of}
use Rattle.nursery.specs.Table.{table_objects}
use Rattle.nursery.proofs.TableCensus.{values_of-append}
use Rattle.heap_objects.specs.WithLarge.{large_entries}
use Rattle.heap_objects.proofs.GraphObjects.{graph-entries}
use Rattle.heap_objects.proofs.LargeCounts.{count-append}
use Rattle.heap_objects.proofs.heap_graph.remembered.count_remembered.Goals as goal

pub returns : goal.returns
returns g c = λ graph shows.
    let p = points_younger (object_at graph) in
    let small = table_objects 0 c.args.table.now in
    let large = large_entries 0 c.args.large.now.slots in
    let all : count_by p (values_of (small ++ large)) ≡ count_by p (values_of small) + count_by p (values_of large) =
    ap (count_by p) (values_of-append small large) ∙ count-append p (values_of small) (values_of large) in
    omega (arith, c.count_small.ensures.value graph shows, c.count_large.ensures.value graph shows, all)
    ∙ ap (λ es. count_by p (map (λ e. e.1) es)) (sym (graph-entries graph c.args.table.now c.args.large.now c.requires.short shows))
