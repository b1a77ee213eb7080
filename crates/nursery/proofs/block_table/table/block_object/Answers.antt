use Rattle.std.proofs.lemmas.Grind.{common_steps}
use Rattle.std.proofs.Common.{◌<◌, length, arith, rules}
use Rattle.nursery.proofs.TableReads.{found_there, object_some, object_none}
use Rattle.nursery.proofs.block_table.table.block_object.Goals as goal

pub returns-in-Some-clause-some : goal.returns-in-Some-clause-some
returns-in-Some-clause-some g c =
    let lt : c.args.number < length c.args.table.now = omega arith in
    let there = found_there c.args.table.now c.args.number c.index-table-number.result c.in-Some.block lt c.index-table-number.is c.in-Some.is in
    object_some c.args.table.now c.args.number c.args.offset c.in-Some.block there c.object_at.result c.object_at.ensures.some c.object_at.ensures.begins

pub returns-in-Some-clause-none : goal.returns-in-Some-clause-none
returns-in-Some-clause-none g c =
    let lt : c.args.number < length c.args.table.now = omega arith in
    let there = found_there c.args.table.now c.args.number c.index-table-number.result c.in-Some.block lt c.index-table-number.is c.in-Some.is in
    object_none c.args.table.now c.args.number c.args.offset c.in-Some.block there c.object_at.result c.object_at.ensures.some

pub returns-then-number-table-clause-some : goal.returns-then-number-table-clause-some
returns-then-number-table-clause-some g c = search rules

pub returns-then-number-table-clause-none : goal.returns-then-number-table-clause-none
returns-then-number-table-clause-none g c = grind (arith, common_steps)

pub returns-in-None-clause-some : goal.returns-in-None-clause-some
returns-in-None-clause-some g c = search rules

pub returns-in-None-clause-none : goal.returns-in-None-clause-none
returns-in-None-clause-none g c = search rules
