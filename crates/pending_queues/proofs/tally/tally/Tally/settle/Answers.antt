use Rattle.std.proofs.Common.{rules, ap, sym, ◌∙◌}
use Rattle.pending_queues.proofs.TallyLemmas.{checks}
use Rattle.pending_queues.proofs.tally.tally.Tally.settle.Goals as goal

pub load-requires : goal.load-requires
load-requires g c =
    let name = ap (λ s. s.name) c.seat.view_is ∙ (c.requires.seat ∙ sym (ap (λ t. t.name) c.self.view_is)) in
    let all = ap (λ s. s.parts) c.seat.view_is ∙ (c.requires.all ∙ sym (c.self.invariant.0 ∙ ap (λ t. t.seats) c.self.view_is)) in
    (name, search rules, checks _ _ _ _ all)

pub returns-clause-same : goal.returns-clause-same
returns-clause-same g c = search rules
