use Rattle.block_pool.proofs.Ranks.{AreLeft}
use Rattle.block_pool.proofs.number_sets.ranking.select.Given as goal

abbrev pub invariant-loop : goal.invariant-loop
invariant-loop l = AreLeft l.word l.left l.counter
