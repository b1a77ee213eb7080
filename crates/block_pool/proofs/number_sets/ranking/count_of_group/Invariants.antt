use Rattle.std.proofs.Common.{◌≡◌}
use Rattle.block_pool.specs.NumberSetsWords.{rank}
use Rattle.block_pool.proofs.number_sets.ranking.count_of_group.Given as goal

abbrev pub invariant-loop-word : goal.invariant-loop-word
invariant-loop-word l = record { count_is : l.count ≡ rank l.group l.word-index }
