use Rattle.std.proofs.Common.{◌≡◌, ◌-◌, ◌^◌}
use Rattle.block_pool.proofs.Groups.{AreFullBelow}
use Rattle.block_pool.proofs.number_sets.ranking.all_set.Given as goal

abbrev pub invariant-loop-at : goal.invariant-loop-at
invariant-loop-at l =
    record {
      full : l.common ≡ 2 ^ 64 - 1 → AreFullBelow l.group l.at;
      kept : AreFullBelow l.group l.at → l.common ≡ 2 ^ 64 - 1;
    }
