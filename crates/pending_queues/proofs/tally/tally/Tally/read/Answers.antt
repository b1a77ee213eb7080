use Rattle.std.proofs.Common.{rules, ap, sym, ◌∙◌}
use Rattle.pending_queues.proofs.TallyLemmas.{reads}
use Rattle.pending_queues.proofs.tally.tally.Tally.read.Goals as goal

pub load-requires : goal.load-requires
load-requires g c =
    let name = ap (λ s. s.name) c.seat.view_is ∙ (c.requires.seat ∙ sym (ap (λ t. t.name) c.self.view_is)) in
    (name, search rules, reads _ _ _ _)

pub returns : goal.returns
returns g c = search rules
