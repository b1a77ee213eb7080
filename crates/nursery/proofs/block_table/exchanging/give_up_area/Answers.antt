use Rattle.std.proofs.Common.{get_or, None, arith, ap, ◌∙◌, cond, ◌||◌, ◌&&◌}
use Rattle.std.specs.Prelude.{nat_le, nat_lt}
use Rattle.model.specs.Reached.{has}
use Rattle.nursery.specs.Table.{cleared, slot_at}
use Rattle.nursery.proofs.Areas.{has_at, give_slot, give_free, not_yet_free, take-all}
use Rattle.nursery.proofs.block_table.exchanging.give_up_area.Goals as goal

pub give_up-requires-clause-in_table : goal.give_up-requires-clause-in_table
give_up-requires-clause-in_table g c =
    let there = c.requires.in_table (get_or c.args.area.now c.loop-number.number-index 0) (has_at c.args.area.now c.loop-number.number-index c.loop-number-test.true) in
    omega (arith, there, c.loop-number.auto.table)

pub give_up-requires-clause-in_pool : goal.give_up-requires-clause-in_pool
give_up-requires-clause-in_pool g c = λ le.
    omega (arith, c.loop-number.invariant.limit, c.requires.in_pool (get_or c.args.area.now c.loop-number.number-index 0) (has_at c.args.area.now c.loop-number.number-index c.loop-number-test.true) le)

pub give_up-requires-clause-not_free : goal.give_up-requires-clause-not_free
give_up-requires-clause-not_free g c = λ le.
    not_yet_free (nat_le c.args.count) c.args.pool.now.free c.loop-number.pool.free c.args.area.now c.loop-number.number-index c.requires.once c.loop-number-test.true
    (c.requires.not_free (get_or c.args.area.now c.loop-number.number-index 0) (has_at c.args.area.now c.loop-number.number-index c.loop-number-test.true) le)
    c.loop-number.invariant.free

pub loop-number-preserved : goal.loop-number-preserved
loop-number-preserved g c =
    let there = c.requires.in_table (get_or c.args.area.now c.loop-number.number-index 0) (has_at c.args.area.now c.loop-number.number-index c.loop-number-test.true) in
    record {
      table = λ n. ap (λ t. get_or t n None) c.give_up.ensures.table ∙ give_slot (λ m slot. cond (nat_lt m c.args.count) (cleared slot) None) c.args.table.now c.loop-number.table c.args.area.now c.loop-number.number-index c.requires.once c.loop-number-test.true (omega (arith, there, c.loop-number.auto.table)) c.loop-number.invariant.table n;
      free = give_free (nat_le c.args.count) c.args.pool.now.free c.loop-number.pool.free c.give_up.new.pool.free c.args.area.now c.loop-number.number-index c.loop-number-test.true c.give_up.ensures.free c.loop-number.invariant.free;
      limit = c.give_up.ensures.limit ∙ c.loop-number.invariant.limit;
    }

pub returns-clause-table : goal.returns-clause-table
returns-clause-table g c =
    λ n. c.loop-number.invariant.table n ∙ ap (λ xs. cond (has xs n) (cond (nat_lt n c.args.count) (cleared (slot_at c.args.table.now n)) None) (slot_at c.args.table.now n)) (take-all c.args.area.now c.loop-number.number-index (c.loop-number-test.false))

pub returns-clause-free : goal.returns-clause-free
returns-clause-free g c =
    λ n. c.loop-number.invariant.free n ∙ ap (λ xs. (nat_le c.args.count n && has xs n) || has c.args.pool.now.free n) (take-all c.args.area.now c.loop-number.number-index (c.loop-number-test.false))
