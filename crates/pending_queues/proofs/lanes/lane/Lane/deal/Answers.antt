use Rattle.std.proofs.Common.{ap, sym, ◌∙◌, arith}
use Rattle.model.specs.Total.{one_if}
use Rattle.pending_queues.proofs.LaneMoves.{cuts, hands}
use Rattle.pending_queues.proofs.lanes.lane.Lane.deal.Goals as goal

pub another-pass-requires-clause-rule : goal.another-pass-requires-clause-rule
another-pass-requires-clause-rule g c =
    let is = c.root.view_is in
    let parts = ap (λ v. v.parts) is in
    let senders = ap (λ v. v.senders) is in
    hands g.C.Cargo.fits _ _ (let p = c.requires.parts in omega arith) (ap (λ v. v.taken) is ∙ c.requires.unused.1) (senders ∙ c.requires.sender c.if-sends.true)

pub another-pass-requires-else-sends-clause-rule : goal.another-pass-requires-else-sends-clause-rule
another-pass-requires-else-sends-clause-rule g c =
    let is = c.root.view_is in
    let parts = ap (λ v. v.parts) is in
    let senders = ap (λ v. v.senders) is in
    cuts g.C.Cargo.fits _ _ (let p = c.requires.parts in omega arith) (ap (λ v. v.taken) is ∙ c.requires.unused.1) (λ one. senders ∙ (c.requires.last (sym parts ∙ one) ∙ ap one_if c.if-sends.false))
