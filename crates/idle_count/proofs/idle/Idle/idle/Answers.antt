use Rattle.std.proofs.Common.{rules, ap, sym, ◌∙◌}
use Rattle.idle_count.proofs.IdleLemmas.{rests}
use Rattle.idle_count.proofs.idle.Idle.idle.Goals as goal

pub fetch_add-found-requires : goal.fetch_add-found-requires
fetch_add-found-requires g c =
    let name = ap (λ s. s.name) c.seat.view_is ∙ (c.requires.seat.name ∙ sym (ap (λ t. t.name) c.self.view_is)) in
    (name, search rules, rests _ _ _ _ c.seat.invariant.0.part (search rules) (search rules))

pub invariant_of-seat : goal.invariant_of-seat
invariant_of-seat g c = search rules

pub returns-clause-least : goal.returns-clause-least
returns-clause-least g c = search rules

pub returns-clause-seat : goal.returns-clause-seat
returns-clause-seat g c = search rules
