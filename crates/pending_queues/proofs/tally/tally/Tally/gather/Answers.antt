use Rattle.std.proofs.Common.{rules, arith, ap, sym, ◌∙◌}
use Rattle.pending_queues.proofs.TallyLemmas.{gathers}
use Rattle.pending_queues.proofs.tally.tally.Tally.gather.Goals as goal

pub join_seat-requires : goal.join_seat-requires
join_seat-requires g c =
    let me = ap (λ s. s.name) c.seat.view_is ∙ (c.requires.seats.0 ∙ sym (ap (λ t. t.name) c.self.view_is)) in
    let its = ap (λ s. s.name) c.other.view_is ∙ (c.requires.seats.1 ∙ sym (ap (λ t. t.name) c.self.view_is)) in
    (me, its, search rules, search rules, gathers _ _ _ _ _ (λ z. let p = c.seat.invariant.0 in omega arith))

pub returns : goal.returns
returns g c = search rules
