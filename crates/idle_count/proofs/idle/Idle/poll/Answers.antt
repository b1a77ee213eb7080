use Rattle.std.proofs.Common.{rules, ap, sym, ◌∙◌}
use Rattle.idle_count.proofs.IdleLemmas.{looks}
use Rattle.idle_count.proofs.idle.Idle.poll.Goals as goal

pub load-requires : goal.load-requires
load-requires g c =
    let name = ap (λ s. s.name) c.seat.view_is ∙ (c.requires.seat.name ∙ sym (ap (λ t. t.name) c.self.view_is)) in
    (name, search rules, looks _ _ _ _ c.seat.invariant.0.part)

pub returns-clause-ended : goal.returns-clause-ended
returns-clause-ended g c = search rules

pub invariant_of-seat : goal.invariant_of-seat
invariant_of-seat g c = search rules
