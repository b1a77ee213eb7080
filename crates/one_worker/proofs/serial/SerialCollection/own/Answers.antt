use Rattle.std.proofs.Common.{◌≡◌, true, refl, sym, subst}
use Rattle.workers.specs.WorkerSteps.{IsFree, has_open_work}
use Rattle.workers.specs.WorkerRun.{Owned}
use Rattle.one_worker.specs.SerialValue.{SerialValue}
use Rattle.one_worker.proofs.Keeping.{acted_alone}
use Rattle.one_worker.proofs.serial.SerialCollection.own.Goals as goal

pub invariant_of-self : goal.invariant_of-self
invariant_of-self g c =
    acted_alone _ (Owned c.args.d) c.own.new.self c.self.invariant
    (subst (λ (v : SerialValue). IsFree v.workspace.worker × (has_open_work v.workspace.worker c.args.d ≡ true)) (sym c.self.view_is) (c.requires.free, c.requires.work))
    c.own.ensures refl (λ h t. t)
