use Rattle.std.proofs.Common.{◌≡◌, ℕ, take, length, false, cond}
use Rattle.model.specs.Reached.{has}
use Rattle.nursery.specs.Areas.{is_flagged, HasRoom}
use Rattle.nursery.proofs.block_table.flagging.remove_blocks.Given as goal

abbrev pub invariant-loop-number : goal.invariant-loop-number
invariant-loop-number g l = record {
  flags : (g n : ℕ) → is_flagged l.areas g n ≡ cond (has (take l.number-index l.numbers) n) false (is_flagged l.fn.areas g n);
  room : (len : ℕ) → HasRoom l.fn.areas len → HasRoom l.areas len;
  generations : length l.areas ≡ length l.fn.areas;
}
