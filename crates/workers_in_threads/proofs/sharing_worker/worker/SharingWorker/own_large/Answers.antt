use Rattle.std.proofs.Common.{◌≢◌, [], sym, subst}
use Rattle.workers.specs.WorkerSteps.{IsFree}
use Rattle.workers.specs.WorkerRun.{OwnedLarge}
use Rattle.scavenge.proofs.Unchanged.{large_won}
use Rattle.workers_in_threads.specs.SharingValue.{SharingValue}
use Rattle.workers_in_threads.proofs.Keeping.{acted_alone, owns_large_alone}
use Rattle.workers_in_threads.proofs.sharing_worker.worker.SharingWorker.own_large.Goals as goal

pub invariant_of-self : goal.invariant_of-self
invariant_of-self g c =
    acted_alone _ _ _ _ g.C.Cells.at_home _ OwnedLarge c.own_large.new.self c.self.invariant owns_large_alone
    (subst (λ (v : SharingValue g.row.C.Denot g.row.C-Pass.Denot g.row.A.Denot). IsFree v.workspace.worker × (v.workspace.worker.large ≢ [])) (sym c.self.view_is) (c.requires.free, c.requires.work))
    c.own_large.ensures (large_won c.self.inside.workspace.worker)
