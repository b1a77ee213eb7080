use Rattle.std.proofs.Common.{◌≡◌, ℕ, take, length, ◌||◌}
use Rattle.nursery.specs.Areas.{holds_young, is_flagged, HasRoom}
use Rattle.nursery.specs.Installed.{installed}
use Rattle.nursery.proofs.block_table.flagging.add_blocks.Given as goal

abbrev pub invariant-loop-block : goal.invariant-loop-block
invariant-loop-block g l = record {
  flags : (g n : ℕ) → is_flagged l.areas g n ≡ (holds_young g (installed (take l.block-index l.blocks) n) || is_flagged l.fn.areas g n);
  room : (len : ℕ) → HasRoom l.fn.areas len → HasRoom l.areas len;
  generations : length l.areas ≡ length l.fn.areas;
}
