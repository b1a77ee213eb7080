use Rattle.std.proofs.Common.{◌<◌, ◌≤◌, ◌-◌, length, get_or}
use Rattle.block_pool.proofs.number_sets.ranking.last_at_most.Given as goal

abbrev pub invariant-loop-high : goal.invariant-loop-high
invariant-loop-high l =
    record {
      some : l.low < l.high;
      within : l.high ≤ length l.before;
      at_most : get_or l.before l.low 0 ≤ l.k;
      past : l.high < length l.before → l.k < get_or l.before l.high 0;
    }

abbrev pub decreases-loop-high : goal.decreases-loop-high
decreases-loop-high l = l.high - l.low
