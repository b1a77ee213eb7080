use Rattle.std.proofs.Common.{◌≡◌, ℕ, ◌≤◌, take, All}
use Rattle.steps.specs.BlockObjects.{copies_of}
use Rattle.heap.specs.Lowest.{AreLowest, lowest_in}
use Rattle.heap.proofs.remembering.lowest.lowest_by_block.Given as goal

-- so it is for the blocks so far, and no bound of all blocks is above
abbrev pub invariant-loop-block : goal.invariant-loop-block
invariant-loop-block g l = record {
  lowest : AreLowest (lowest_in l.lowest.items) (copies_of (take l.block-index l.blocks));
  greatest : (number bound : ℕ) → bound ≤ 255 → All (λ b. b.number ≡ number → bound ≤ b.generation) l.blocks → bound ≤ lowest_in l.lowest.items number;
}
