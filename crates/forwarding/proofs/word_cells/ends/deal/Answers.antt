use Rattle.std.proofs.Common.{rules, arith}
use Rattle.forwarding.proofs.Keeps.{deals}
use Rattle.forwarding.proofs.word_cells.ends.deal.Goals as goal

pub split_seat-next-requires : goal.split_seat-next-requires
split_seat-next-requires g c = (search rules, search rules, deals _ _ _ (omega arith))

pub loop-init : goal.loop-init
loop-init g c = search rules

pub invariant_of-push_reserved-2 : goal.invariant_of-push_reserved-2
invariant_of-push_reserved-2 g c = search rules

pub push_reserved-requires-2 : goal.push_reserved-requires-2
push_reserved-requires-2 g c = search rules

pub returns-clause-many : goal.returns-clause-many
returns-clause-many g c = search rules
