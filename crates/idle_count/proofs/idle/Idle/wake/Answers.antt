use Rattle.std.proofs.Common.{rules, ap, sym, ◌∙◌}
use Rattle.idle_count.proofs.IdleLemmas.{wakes}
use Rattle.idle_count.proofs.idle.Idle.wake.Goals as goal

pub compare_exchange-found-requires : goal.compare_exchange-found-requires
compare_exchange-found-requires g c =
    let name = ap (λ s. s.name) c.seat.view_is ∙ (c.requires.seat.name ∙ sym (ap (λ t. t.name) c.self.view_is)) in
    (name, search rules, wakes _ _ _ _ _ c.seat.invariant.0.count c.seat.invariant.0.part (search rules) (search rules) (search rules))

pub invariant_of-seat : goal.invariant_of-seat
invariant_of-seat g c = search rules

pub returns-then-seen-self-clause-going : goal.returns-then-seen-self-clause-going
returns-then-seen-self-clause-going g c = search rules

pub invariant_of-seat-2 : goal.invariant_of-seat-2
invariant_of-seat-2 g c = search rules

pub returns-clause-seat : goal.returns-clause-seat
returns-clause-seat g c = search rules
