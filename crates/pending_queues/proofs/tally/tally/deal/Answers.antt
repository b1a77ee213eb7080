use Rattle.std.proofs.Common.{rules, arith}
use Rattle.pending_queues.proofs.TallyLemmas.{deals}
use Rattle.pending_queues.proofs.tally.tally.deal.Goals as goal

pub split_seat-seat-requires : goal.split_seat-seat-requires
split_seat-seat-requires g c = (search rules, search rules, deals _ _ _ (omega arith) (search rules) (search rules))
