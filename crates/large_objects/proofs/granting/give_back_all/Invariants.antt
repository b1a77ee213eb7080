use Rattle.std.proofs.Common.{◌≡◌, ℕ, take, ◌||◌}
use Rattle.model.specs.Reached.{has}
use Rattle.large_objects.proofs.granting.give_back_all.Given as goal

abbrev pub invariant-loop-number : goal.invariant-loop-number
invariant-loop-number g l = record {
  free : (n : ℕ) → has l.pool.free n ≡ (has (take l.number-index l.blocks) n || has l.fn.pool.free n);
  limit : l.pool.limit ≡ l.fn.pool.limit;
}
