use Rattle.std.proofs.Common.{rules, ap, arith}
use Rattle.pending_queues.proofs.LaneMoves.{takes, learns_nothing}
use Rattle.pending_queues.proofs.lanes.lane.Lane.receive.Goals as goal

pub pop_as-requires-clause-rule : goal.pop_as-requires-clause-rule
pop_as-requires-clause-rule g c =
    let parts = ap (λ v. v.parts) c.pass.view_is in
    (takes g.C.Cargo.fits _ _ (let p = c.requires.parts in omega arith), learns_nothing g.C.Cargo.fits _ _)

pub returns : goal.returns
returns g c = search rules
