use Rattle.std.proofs.Common.{◌≡◌, ℕ, None, take, ◌||◌, ◌&&◌, cond}
use Rattle.std.specs.Prelude.{nat_le, nat_lt}
use Rattle.model.specs.Reached.{has}
use Rattle.nursery.specs.Table.{cleared, slot_at}
use Rattle.nursery.proofs.block_table.exchanging.give_up_area.Given as goal

abbrev pub invariant-loop-number : goal.invariant-loop-number
invariant-loop-number g l = record {
  table : (n : ℕ) → slot_at l.table n ≡ cond (has (take l.number-index l.area) n) (cond (nat_lt n l.count) (cleared (slot_at l.fn.table n)) None) (slot_at l.fn.table n);
  free : (n : ℕ) → has l.pool.free n ≡ ((nat_le l.count n && has (take l.number-index l.area) n) || has l.fn.pool.free n);
  limit : l.pool.limit ≡ l.fn.pool.limit;
}
