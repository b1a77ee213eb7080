use Rattle.std.proofs.Common.{arith}
use Rattle.nursery.proofs.Numbers.{no_numbers, skip_to, push_number, all_from_0}
use Rattle.nursery.proofs.block_table.counts.young_blocks.Goals as goal

pub loop-number-init : goal.loop-number-init
loop-number-init g c = rw c.new-numbers.ensures.items (record { so_far = no_numbers _ _ })

pub loop-number-preserved : goal.loop-number-preserved
loop-number-preserved g c =
    let skipped = skip_to _ _ c.loop-number.next c.in-Some.number c.loop-number.numbers.items c.loop-number.invariant.so_far c.in-Some.ensures.from c.in-Some.ensures.first in
    rw c.in_ok-push.ensures.items (record {
      so_far = push_number _ _ c.in-Some.number c.loop-number.numbers.items skipped (omega arith) c.in-Some.ensures.flag;
    })

pub returns-clause-numbers : goal.returns-clause-numbers
returns-clause-numbers g c = all_from_0 _ c.loop-number.next c.loop-number.numbers.items c.loop-number.invariant.so_far c.in_default.ensures.none
