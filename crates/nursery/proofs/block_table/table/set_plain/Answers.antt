use Rattle.std.proofs.Common.{◌<◌, None, Some, length, set, sym, ap, ◌∙◌, arith}
use Rattle.model.proofs.Options.{some_not_none}
use Rattle.block_pool.specs.BlockValue.{BlockValue, with_plain_word}
use Rattle.nursery.proofs.TableReads.{found_there, same_block}
use Rattle.nursery.proofs.TableSteps.{in_list, get_or_any}
use Rattle.nursery.proofs.block_table.table.set_plain.Goals as goal

pub bounds-table-number : goal.bounds-table-number
bounds-table-number g c = in_list c.args.table.now c.args.number c.requires.there.block c.requires.there.there

pub set_plain_from-requires-clause-object : goal.set_plain_from-requires-clause-object
set_plain_from-requires-clause-object g c =
    let lt : c.args.number < length c.args.table.now = in_list c.args.table.now c.args.number c.requires.there.block c.requires.there.there in
    let same = same_block c.args.table.now c.args.number c.index-table-number.result c.in-Some.block c.requires.there.block lt c.index-table-number.is (c.index-table-number.is ∙ c.in-Some.is) c.requires.there.there in
    (c.requires.there.ordinal, rw same c.requires.there.in_block, rw same c.requires.there.at)

pub set_plain_from-requires-clause-field : goal.set_plain_from-requires-clause-field
set_plain_from-requires-clause-field g c = λ k raw within at is.
    let lt : c.args.number < length c.args.table.now = in_list c.args.table.now c.args.number c.requires.there.block c.requires.there.there in
    omega (arith, c.requires.field c.in-Some.block k raw (found_there c.args.table.now c.args.number c.index-table-number.result c.in-Some.block lt c.index-table-number.is (c.index-table-number.is ∙ c.in-Some.is)) within at is)

pub returns : goal.returns
returns g c = λ block k raw there within at is.
    let lt : c.args.number < length c.args.table.now = in_list c.args.table.now c.args.number c.requires.there.block c.requires.there.there in
    let same = same_block c.args.table.now c.args.number c.index-table-number.result c.in-Some.block block lt c.index-table-number.is (c.index-table-number.is ∙ c.in-Some.is) there in
    let changed = c.set_plain_from.ensures k raw (rw (sym same) at within) (rw (sym same) at at) (rw (sym same) at is) in
    ap (λ (x : BlockValue). set c.args.table.now c.args.number (Some x))
    (changed ∙ ap (λ (b : BlockValue). let x : BlockValue = record b { objects = set b.objects k (with_plain_word raw c.args.i c.args.word) } in x) same)

pub unreachable-requires : goal.unreachable-requires
unreachable-requires g c =
    let lt : c.args.number < length c.args.table.now = in_list c.args.table.now c.args.number c.requires.there.block c.requires.there.there in
    some_not_none (sym c.requires.there.there ∙ sym (get_or_any c.args.table.now c.args.number c.index-table-number.result None lt) ∙ c.in-None.is)
