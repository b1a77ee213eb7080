use Rattle.std.proofs.lemmas.Grind.{common_steps}
use Rattle.std.proofs.Common.{rules, arith}
use Rattle.block_pool.proofs.DrawLemmas.{deals}
use Rattle.block_pool.proofs.claims.claims.deal.Goals as goal

pub split_seat-seat-requires : goal.split_seat-seat-requires
split_seat-seat-requires g c = (search rules, search rules, deals _ _ _ _ (omega arith) (search rules) (search rules))

pub invariant_of-push : goal.invariant_of-push
invariant_of-push g c = search rules

pub loop-preserved : goal.loop-preserved
loop-preserved g c = grind (arith, common_steps)
