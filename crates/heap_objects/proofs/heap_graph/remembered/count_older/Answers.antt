use Rattle.std.proofs.Common.{◌≡◌, Some, None, map, get_or, sym, ap, ◌∙◌, arith}
use Rattle.std.proofs.lemmas.Bool.Decides.{nat_tests}
use Rattle.std.specs.Prelude.{count_by}
use Rattle.model.specs.Graph.{object_at}
use Rattle.model.specs.Census.{points_younger}
use Rattle.nursery.specs.Table.{slot_objects}
use Rattle.nursery.proofs.TableReads.{found_there}
use Rattle.heap_objects.proofs.Remembering.{none_younger}
use Rattle.heap_objects.proofs.heap_graph.remembered.count_older.Goals as goal

pub returns-then-generation-eq0-clause-value : goal.returns-then-generation-eq0-clause-value
returns-then-generation-eq0-clause-value g c = λ graph shows.
    let block = c.in-Some.block in
    let there : get_or c.args.table.now c.args.number None ≡ Some block = found_there c.args.table.now c.args.number c.index-table-number.result block c.requires.in_range c.index-table-number.is c.in-Some.is in
    let first : block.generation ≡ 0 = grind (arith, nat_tests, c.generation.ensures, c.if-generation-eq0.true) in
    sym (ap (λ s. count_by (points_younger (object_at graph)) (map (λ e. e.1) (slot_objects c.args.number s))) there
    ∙ none_younger (object_at graph) c.args.number block first)

pub returns-else-generation-eq0-clause-value : goal.returns-else-generation-eq0-clause-value
returns-else-generation-eq0-clause-value g c = λ graph shows.
    let block = c.in-Some.block in
    let there : get_or c.args.table.now c.args.number None ≡ Some block = found_there c.args.table.now c.args.number c.index-table-number.result block c.requires.in_range c.index-table-number.is c.in-Some.is in
    c.count_block.ensures.value graph c.args.number shows there
    ∙ sym (ap (λ s. count_by (points_younger (object_at graph)) (map (λ e. e.1) (slot_objects c.args.number s))) there)
