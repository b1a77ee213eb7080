use Rattle.std.proofs.Common.{◌≡◌, ℕ, ◌<◌, ◌≤◌, ◌-◌, length, get_or}
use Rattle.block_pool.proofs.number_sets.number_set.next_word.Given as goal

abbrev pub invariant-loop-at : goal.invariant-loop-at
invariant-loop-at l =
    record {
      from : l.fn.from ≤ l.at;
      to : l.at ≤ length l.words;
      passed : (k : ℕ) → l.fn.from ≤ k → k < l.at → get_or l.words k 0 ≡ 0;
    }

abbrev pub decreases-loop-at : goal.decreases-loop-at
decreases-loop-at l = length l.words - l.at
