use Rattle.std.proofs.Common.{ap}
use Rattle.scavenge.specs.Shown.{WorkspaceValue, Begins}
use Rattle.workers_in_threads.proofs.Handing.{handed_for, exported}
use Rattle.workers_in_threads.proofs.sharing_worker.worker.SharingWorker.export.Goals as goal

pub export-requires-clause-fact : goal.export-requires-clause-fact
export-requires-clause-fact g c =
    let first : Begins c.self.inside.workspace.config.shape c.self.inside.workspace.worker.aside c.in-Some.block = c.in-Some.ensures.block in
    handed_for _ _ _ _ _ c.self.invariant c.in-Some.block first c.in-Some.ensures.whole

pub invariant_of-self : goal.invariant_of-self
invariant_of-self g c =
    let first : Begins c.self.inside.workspace.config.shape c.self.inside.workspace.worker.aside c.in-Some.block = c.in-Some.ensures.block in
    exported _ _ _ _ _ c.self.invariant c.in-Some.block first c.in-Some.ensures.whole c.aside.new.self c.export.new.seat c.export.ensures.of c.in-Ok.ensures.sent
    (ap (λ (w : WorkspaceValue). w.config) c.in-Some.ensures.worker) (ap (λ (w : WorkspaceValue). w.names) c.in-Some.ensures.worker) (ap (λ (w : WorkspaceValue). w.worker) c.in-Some.ensures.worker)
