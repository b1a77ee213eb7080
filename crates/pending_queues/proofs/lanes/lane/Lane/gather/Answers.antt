use Rattle.std.proofs.Common.{rules, ap, arith}
use Rattle.pending_queues.proofs.LaneMoves.{merges}
use Rattle.pending_queues.proofs.lanes.lane.Lane.gather.Goals as goal

pub absorb-requires-clause-rule : goal.absorb-requires-clause-rule
absorb-requires-clause-rule g c =
    let parts = ap (λ v. v.parts) c.pass.view_is in
    let others = ap (λ v. v.parts) c.other.view_is in
    merges g.C.Cargo.fits _ _ _ _ (let p = c.requires.parts.0 in omega arith) (let p = c.requires.parts.1 in omega arith)

pub returns : goal.returns
returns g c = search rules
