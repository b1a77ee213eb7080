use Rattle.std.proofs.Common.{get_or, arith, ap, ◌∙◌}
use Rattle.large_objects.proofs.BlockSets.{has_at, given_back, not_yet_free}
use Rattle.large_objects.proofs.granting.give_back_all.Goals as goal

pub give_back-requires-clause-in_limit : goal.give_back-requires-clause-in_limit
give_back-requires-clause-in_limit g c =
    omega (arith, c.loop-number.invariant.limit, c.requires.in_limit (get_or c.args.blocks.now c.loop-number.number-index 0) (has_at c.args.blocks.now c.loop-number.number-index c.loop-number-test.true))

pub give_back-requires-clause-taken : goal.give_back-requires-clause-taken
give_back-requires-clause-taken g c =
    not_yet_free c.args.pool.now.free c.loop-number.pool.free c.args.blocks.now c.loop-number.number-index c.loop-number-test.true c.loop-number.invariant.free
    c.requires.once
    (c.requires.taken (get_or c.args.blocks.now c.loop-number.number-index 0) (has_at c.args.blocks.now c.loop-number.number-index c.loop-number-test.true))

pub loop-number-preserved : goal.loop-number-preserved
loop-number-preserved g c =
    record {
      free = given_back c.args.pool.now.free c.loop-number.pool.free c.args.blocks.now c.loop-number.number-index c.loop-number-test.true c.loop-number.invariant.free c.give_back.new.self.free (ap (λ p. p.free) c.give_back.ensures.given);
      limit = ap (λ p. p.limit) c.give_back.ensures.given ∙ c.loop-number.invariant.limit;
    }
