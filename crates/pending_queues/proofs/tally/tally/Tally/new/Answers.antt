use Rattle.std.proofs.Common.{refl}
use Rattle.pending_queues.proofs.TallyLemmas.{opens}
use Rattle.pending_queues.proofs.tally.tally.Tally.new.Goals as goal

pub of_words-requires : goal.of_words-requires
of_words-requires g c = opens c.args.seats

pub deal-requires-clause-parts : goal.deal-requires-clause-parts
deal-requires-clause-parts g c = c.in_ok-table.ensures.4

pub returns-clause-count : goal.returns-clause-count
returns-clause-count g c = (refl, c.in_ok-made-2.ensures.count)
