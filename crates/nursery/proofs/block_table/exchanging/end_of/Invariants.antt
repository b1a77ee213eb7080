use Rattle.std.proofs.Common.{ℕ, ◌<◌, ◌≤◌}
use Rattle.std.specs.Prelude.{All}
use Rattle.std.specs.List.{AllWithin}
use Rattle.nursery.proofs.block_table.exchanging.end_of.Given as goal

abbrev pub invariant-loop-block : goal.invariant-loop-block
invariant-loop-block g l = record {
  above : AllWithin (λ block. block.number < l.end) l.blocks 0 l.block-index;
  least : (limit : ℕ) → All (λ block. block.number < limit) l.blocks → l.end ≤ limit;
}
