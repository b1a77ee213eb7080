use Rattle.std.proofs.Common.{◌≡◌, true, refl, sym, subst}
use Rattle.workers.specs.WorkerSteps.{IsFree, has_open_work}
use Rattle.workers.specs.WorkerRun.{Owned}
use Rattle.workers_in_threads.specs.SharingValue.{SharingValue}
use Rattle.workers_in_threads.proofs.Keeping.{acted_alone, owns_alone}
use Rattle.workers_in_threads.proofs.sharing_worker.worker.SharingWorker.own.Goals as goal

pub invariant_of-self : goal.invariant_of-self
invariant_of-self g c =
    acted_alone _ _ _ _ g.C.Cells.at_home _ (Owned c.args.d) c.own.new.self c.self.invariant (owns_alone c.args.d)
    (subst (λ (v : SharingValue g.row.C.Denot g.row.C-Pass.Denot g.row.A.Denot). IsFree v.workspace.worker × (has_open_work v.workspace.worker c.args.d ≡ true)) (sym c.self.view_is) (c.requires.free, c.requires.work))
    c.own.ensures refl
