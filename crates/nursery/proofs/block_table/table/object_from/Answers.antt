use Rattle.std.proofs.Common.{◌<◌, None, length, sym, ◌∙◌}
use Rattle.nursery.proofs.TableReads.{same_block}
use Rattle.nursery.proofs.TableSteps.{in_list, get_or_any}
use Rattle.model.proofs.Options.{some_not_none}
use Rattle.nursery.proofs.block_table.table.object_from.Goals as goal

pub bounds-table-number : goal.bounds-table-number
bounds-table-number g c = in_list c.args.table.now c.args.number c.requires.block c.requires.there

pub object_from-requires : goal.object_from-requires
object_from-requires g c =
    let lt : c.args.number < length c.args.table.now = in_list c.args.table.now c.args.number c.requires.block c.requires.there in
    let same = same_block c.args.table.now c.args.number c.index-table-number.result c.in-Some.block c.requires.block lt c.index-table-number.is c.in-Some.is c.requires.there in
    (c.requires.ordinal, rw same c.requires.in_block, rw same c.requires.at)

pub returns : goal.returns
returns g c = λ block k there lt at.
    let in_table : c.args.number < length c.args.table.now = in_list c.args.table.now c.args.number c.requires.block c.requires.there in
    let same = same_block c.args.table.now c.args.number c.index-table-number.result c.in-Some.block block in_table c.index-table-number.is c.in-Some.is there in
    rw same at (c.object_from.ensures k (rw (sym same) at lt) (rw (sym same) at at))

pub unreachable-requires : goal.unreachable-requires
unreachable-requires g c =
    let lt : c.args.number < length c.args.table.now = in_list c.args.table.now c.args.number c.requires.block c.requires.there in
    some_not_none (sym c.requires.there ∙ sym (get_or_any c.args.table.now c.args.number c.index-table-number.result None lt) ∙ sym c.index-table-number.is ∙ c.in-None.is)
