use Rattle.std.proofs.Common.{ℕ, Option, sym, subst}
use Rattle.crossbeam_queue.specs.Fifo.{Forks}
use Rattle.pending_queues.specs.declared.lanes.view.View.{View}
use Rattle.pending_queues.specs.LaneRule.{opening, named, spent, IsKeptLane}
use Rattle.pending_queues.proofs.LaneMoves.{begins, names}
use Rattle.pending_queues.proofs.lanes.lane.open_as.Goals as goal

pub with_rule-requires : goal.with_rule-requires
with_rule-requires g c = begins g.C.Cargo.fits

pub another-requires-clause-rule : goal.another-requires-clause-rule
another-requires-clause-rule g c =
    let K : Type 0 = g.row.C-Key.Denot in
    let A : Type 0 = g.row.A.Denot in
    let id : ℕ = c.in_ok-queue.pass.id in
    subst (λ (v : View K A). Forks (IsKeptLane g.C.Cargo.fits) id v (named g.N.Naming.about v) spent) (sym c.in_ok-queue.ensures.2)
    (subst (λ (o : Option (K × ℕ × ℕ)). Forks (IsKeptLane {K = K} {A = A} g.C.Cargo.fits) id opening (named o opening) spent) (sym c.requires)
    (names {K = K} {A = A} g.C.Cargo.fits (c.args.key.now, c.args.exporter, c.args.seats) id))
