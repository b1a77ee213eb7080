use Rattle.std.proofs.Common.{sym, ap, subst, ◌∙◌}
use Rattle.forwarding.specs.declared.shared_cells.lent.Lent.{Lent}
use Rattle.workers_in_threads.specs.SharingValue.{SharingValue}
use Rattle.workers_in_threads.proofs.Bringing.{brings}
use Rattle.workers_in_threads.proofs.thread.work_apart.Goals as goal

pub returns : goal.returns
returns g c =
    let is = c.new-worker.ensures in
    let mine = subst (λ i. g.S.SharedCells.is_pass c.args.cells.now i c.args.kit.pass) (sym c.index.ensures) c.requires.pass in
    let home = c.run-worker.ensures.same.home (record { cells = c.args.cells; gate = c.args.gate; worker = c.index.result })
    (subst (λ p. g.S.SharedCells.is_pass c.args.cells.now c.index.result p) (sym (ap (λ (v : SharingValue (Lent g.row.S.Denot g.row.G.Denot) g.row.S-Pass.Denot g.row.A.Denot). v.pass) is)) mine) in
    brings (g.S.SharedCells.is_pass c.args.cells.now) c.args.heap.now c.args.collection.now c.args.claims.now c.args.queues.now c.args.workers c.args.kit.seat.index _ _ c.into_parts-pass.ensures.sharing c.run-worker.ensures.same
    (ap (λ (v : SharingValue (Lent g.row.S.Denot g.row.G.Denot) g.row.S-Pass.Denot g.row.A.Denot). v.heap) is) (ap (λ (v : SharingValue (Lent g.row.S.Denot g.row.G.Denot) g.row.S-Pass.Denot g.row.A.Denot). v.collection) is)
    (ap (λ (v : SharingValue (Lent g.row.S.Denot g.row.G.Denot) g.row.S-Pass.Denot g.row.A.Denot). v.claims) is) (ap (λ (v : SharingValue (Lent g.row.S.Denot g.row.G.Denot) g.row.S-Pass.Denot g.row.A.Denot). v.queues) is)
    (ap (λ (v : SharingValue (Lent g.row.S.Denot g.row.G.Denot) g.row.S-Pass.Denot g.row.A.Denot). v.workers) is) (ap (λ (v : SharingValue (Lent g.row.S.Denot g.row.G.Denot) g.row.S-Pass.Denot g.row.A.Denot). v.seat.index) is)
    c.run-worker.result.1 c.into_parts-pass.result.pass c.into_parts-pass.result.draws c.into_parts-pass.result.seat c.into_parts-pass.result.workspace c.run-worker.new.voice
    c.into_parts-pass.ensures.pass c.into_parts-pass.ensures.draws c.into_parts-pass.ensures.seat c.into_parts-pass.ensures.workspace
    (subst (λ i. g.S.SharedCells.is_pass c.args.cells.now i c.run-worker.result.0.pass) c.index.ensures home) (λ e. (c.run-worker.ensures.ended e).0) c.run-worker.ensures.full
    c.run-worker.ensures.told (λ e. c.run-worker.ensures.quiet e ∙ c.requires.silent) (λ e. c.run-worker.ensures.left e ∙ c.requires.silent)
