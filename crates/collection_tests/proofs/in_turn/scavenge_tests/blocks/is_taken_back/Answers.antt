use Rattle.std.proofs.Common.{sym, ◌∙◌}
use Rattle.scavenge.specs.Fronts.{slot_at}
use Rattle.collection_tests.proofs.Unscanned.{has_block, is_there}
use Rattle.collection_tests.proofs.in_turn.scavenge_tests.blocks.is_taken_back.Goals as goal

pub take_back-requires-clause-there : goal.take_back-requires-clause-there
take_back-requires-clause-there c = is_there c.args.table.now c.args.d (sym c.has_unscanned.ensures ∙ c.if-not-has_unscanned.false)

pub take_back-requires-clause-some : goal.take_back-requires-clause-some
take_back-requires-clause-some c = has_block (slot_at c.args.table.now c.args.d) (sym c.has_unscanned.ensures ∙ c.if-not-has_unscanned.false)
