use Rattle.std.proofs.Common.{◌≡◌, ℕ, length, ◌&&◌}
use Rattle.std.specs.Prelude.{nat_lt}
use Rattle.nursery.specs.Areas.{holds_young, is_flagged, HasRoom}
use Rattle.nursery.specs.Table.{slot_at}
use Rattle.nursery.proofs.block_table.flagging.areas_of.Given as goal

abbrev pub invariant-loop-number : goal.invariant-loop-number
invariant-loop-number g l = record {
  flags : (g n : ℕ) → is_flagged l.areas g n ≡ (nat_lt n l.number && holds_young g (slot_at l.table n));
  room : HasRoom l.areas (length l.table);
  generations : length l.areas ≡ l.generations;
}
