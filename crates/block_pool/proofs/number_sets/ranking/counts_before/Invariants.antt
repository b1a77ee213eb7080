use Rattle.std.proofs.Common.{◌≡◌, ◌≤◌, ◌*◌, length}
use Rattle.std.specs.Vec.{vec_capacity}
use Rattle.block_pool.specs.NumberSetsWords.{rank}
use Rattle.block_pool.proofs.Groups.{AreRanksBelow}
use Rattle.block_pool.proofs.number_sets.ranking.counts_before.Given as goal

abbrev pub invariant-loop-group : goal.invariant-loop-group
invariant-loop-group g l =
    record {
      room : l.groups ≤ vec_capacity l.before;
      as_many : length l.before.items ≡ l.group;
      each : AreRanksBelow l.words l.before.items l.group;
      count_is : l.count ≡ rank l.words (16 * l.group);
    }
