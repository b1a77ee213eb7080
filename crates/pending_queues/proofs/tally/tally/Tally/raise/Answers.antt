use Rattle.std.proofs.Common.{rules, ap, sym, ◌∙◌}
use Rattle.pending_queues.proofs.TallyLemmas.{raises}
use Rattle.pending_queues.proofs.tally.tally.Tally.raise.Goals as goal

pub fetch_add-requires : goal.fetch_add-requires
fetch_add-requires g c =
    let name = ap (λ s. s.name) c.seat.view_is ∙ (c.requires.seat ∙ sym (ap (λ t. t.name) c.self.view_is)) in
    (name, search rules, raises _ _ _ _ c.seat.invariant.0)

pub returns : goal.returns
returns g c = search rules
