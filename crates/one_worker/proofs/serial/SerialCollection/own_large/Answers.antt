use Rattle.std.proofs.Common.{◌≢◌, [], sym, subst}
use Rattle.workers.specs.WorkerSteps.{IsFree}
use Rattle.workers.specs.WorkerRun.{OwnedLarge}
use Rattle.one_worker.specs.SerialValue.{SerialValue}
use Rattle.one_worker.proofs.Keeping.{acted_alone}
use Rattle.scavenge.proofs.Unchanged.{large_won}
use Rattle.one_worker.proofs.serial.SerialCollection.own_large.Goals as goal

pub invariant_of-self : goal.invariant_of-self
invariant_of-self g c =
    acted_alone _ OwnedLarge c.own_large.new.self c.self.invariant
    (subst (λ (v : SerialValue). IsFree v.workspace.worker × (v.workspace.worker.large ≢ [])) (sym c.self.view_is) (c.requires.free, c.requires.work))
    c.own_large.ensures (large_won c.self.inside.workspace.worker) (λ h t. t)
