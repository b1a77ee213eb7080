use Rattle.std.proofs.Common.{sym, ◌∙◌}
use Rattle.scavenge.specs.Fronts.{slot_at}
use Rattle.collection_tests.proofs.Unscanned.{has_block, is_there}
use Rattle.collection_tests.proofs.in_turn.scavenge_tests.blocks.passed.Goals as goal

pub pass_front-requires-clause-there : goal.pass_front-requires-clause-there
pass_front-requires-clause-there c = is_there c.args.table.now c.args.d (sym c.has_unscanned.ensures ∙ c.if-not-has_unscanned.false)

pub pass_front-requires-clause-some : goal.pass_front-requires-clause-some
pass_front-requires-clause-some c = has_block (slot_at c.args.table.now c.args.d) (sym c.has_unscanned.ensures ∙ c.if-not-has_unscanned.false)
