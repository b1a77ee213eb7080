use Rattle.std.proofs.Common.{◌≡◌, ◌+◌, ◌-◌, length, get_or}
use Rattle.std.specs.Prelude.{count_ones}
use Rattle.block_pool.specs.NumberSetsWords.{rank}
use Rattle.block_pool.proofs.Ranks.{IsLeft}
use Rattle.block_pool.proofs.number_sets.ranking.nth_from.Given as goal

abbrev pub invariant-loop-flags : goal.invariant-loop-flags
invariant-loop-flags l =
    record {
      left_is : IsLeft l.words l.at l.left (rank l.words l.from + l.k);
      flags_is : l.flags ≡ count_ones (get_or l.words l.at 0);
    }

abbrev pub decreases-loop-flags : goal.decreases-loop-flags
decreases-loop-flags l = length l.words - l.at
