use Rattle.std.proofs.Common.{◌<◌, None, length, sym, ◌∙◌}
use Rattle.nursery.proofs.TableReads.{found_there}
use Rattle.nursery.proofs.TableSteps.{in_list, get_or_any}
use Rattle.model.proofs.Options.{some_not_none}
use Rattle.nursery.proofs.block_table.table.block_of.Goals as goal

pub bounds-table-number : goal.bounds-table-number
bounds-table-number g c = in_list c.args.table.now c.args.number c.requires.0 c.requires.1

pub returns : goal.returns
returns g c =
    let lt : c.args.number < length c.args.table.now = in_list c.args.table.now c.args.number c.requires.0 c.requires.1 in
    found_there c.args.table.now c.args.number c.index-table-number.result c.in-Some.block lt c.index-table-number.is c.in-Some.is

pub unreachable-requires : goal.unreachable-requires
unreachable-requires g c =
    let lt : c.args.number < length c.args.table.now = in_list c.args.table.now c.args.number c.requires.0 c.requires.1 in
    some_not_none (sym c.requires.1 ∙ sym (get_or_any c.args.table.now c.args.number c.index-table-number.result None lt) ∙ sym c.index-table-number.is ∙ c.in-None.is)
