use Rattle.std.proofs.Common.{◌<◌, ◌+◌, ◌^◌, ◌∙◌, sym, arith, rules, refl, get_or, length}
use Rattle.block_pool.proofs.Ranks.{rank-zero, rank-all, rank-le, rank-more}
use Rattle.block_pool.proofs.Groups.{rank-full}
use Rattle.block_pool.proofs.number_sets.ranking.count_of_group.Goals as goal

pub returns-then-all_set : goal.returns-then-all_set
returns-then-all_set c =
    let ws = c.args.group.now in
    let full = c.all_set.ensures.0 c.if-all_set.true in
    omega (arith, rank-full ws (length ws) (omega arith) full, rank-all ws (length ws) (omega arith))

pub loop-word-init : goal.loop-word-init
loop-word-init c = record { count_is = sym (rank-zero c.args.group.now) }

pub overflow_add-count : goal.overflow_add-count
overflow_add-count c =
    let ws = c.args.group.now in
    let below : get_or ws c.loop-word.word-index 0 < 2 ^ 64 = search rules in
    let more = rank-more ws c.loop-word.word-index _ c.loop-word-test.true refl below in
    omega (arith, c.flags_in-count.ensures, c.loop-word.invariant.count_is, more, rank-le ws (c.loop-word.word-index + 1), c.requires, c.loop-word-test.true)

pub loop-word-preserved : goal.loop-word-preserved
loop-word-preserved c =
    let ws = c.args.group.now in
    let below : get_or ws c.loop-word.word-index 0 < 2 ^ 64 = search rules in
    let more = rank-more ws c.loop-word.word-index _ c.loop-word-test.true refl below in
    record { count_is = omega (arith, c.flags_in-count.ensures, c.loop-word.invariant.count_is, more) }

pub returns : goal.returns
returns c = c.loop-word.invariant.count_is ∙ rank-all c.args.group.now c.loop-word.word-index (omega (arith, c.loop-word-test.false))
