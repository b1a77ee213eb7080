use Rattle.std.proofs.Common.{ℕ, ◌≤◌, take, All}
use Rattle.steps.specs.BlockObjects.{copies_of}
use Rattle.heap.specs.Noted.{AreFrom}
use Rattle.heap.proofs.remembering.copies.youngest_of_copies.Given as goal

-- none of the copies in the blocks so far is younger, and no bound of all of them is above
abbrev pub invariant-loop-block : goal.invariant-loop-block
invariant-loop-block g l = record {
  most : l.youngest ≤ l.most;
  copies : AreFrom l.youngest (copies_of (take l.block-index l.blocks));
  greatest : (bound : ℕ) → bound ≤ l.most → All (λ b. bound ≤ b.generation) l.blocks → bound ≤ l.youngest;
}
