use Rattle.std.proofs.Common.{rules}
use Rattle.idle_count.proofs.idle.Idle.new.Goals as goal

pub deal-requires-clause-key : goal.deal-requires-clause-key
deal-requires-clause-key g c = search rules

pub deal-requires-clause-parts : goal.deal-requires-clause-parts
deal-requires-clause-parts g c = search rules

pub returns-clause-count : goal.returns-clause-count
returns-clause-count g c = search rules

pub returns-clause-seats : goal.returns-clause-seats
returns-clause-seats g c = search rules

pub of_words-requires : goal.of_words-requires
of_words-requires g c = search rules
