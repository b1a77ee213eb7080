use Rattle.std.proofs.Common.{rules, ap, sym, ◌∙◌, arith, length, subst}
use Rattle.pending_queues.specs.PassValue.{PassValue, Meets}
use Rattle.pending_queues.proofs.LaneMoves.{sends, meets_in}
use Rattle.pending_queues.proofs.lanes.lane.Lane.send.Goals as goal

pub push_as-requires-clause-rule : goal.push_as-requires-clause-rule
push_as-requires-clause-rule g c n =
    let is = c.pass.view_is in
    let parts = ap (λ v. v.parts) is in
    let senders = ap (λ v. v.senders) is in
    let meets = subst (λ (v : PassValue g.row.A.Denot g.row.C-Key.Denot). Meets g.C.Cargo.fits v.about (length v.sent) c.args.block) (sym is) c.requires.block in
    sends g.C.Cargo.fits n _ _ _ (senders ∙ c.requires.sends.1) (let p = c.requires.sends.0 in omega arith) (meets_in g.C.Cargo.fits _ c.pass.inside.named _ _ meets)

pub returns : goal.returns
returns g c = search rules
