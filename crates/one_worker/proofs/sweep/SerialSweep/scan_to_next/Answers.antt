use Rattle.std.proofs.Common.{sym, subst}
use Rattle.workers.specs.WorkerSteps.{CanScan, after_scan}
use Rattle.workers.specs.WorkerRun.{Scanned}
use Rattle.one_worker.specs.SerialValue.{SerialValue, setting_in}
use Rattle.one_worker.proofs.Keeping.{acted_alone, acted_or}
use Rattle.scavenge.proofs.Unchanged.{scan_won}
use Rattle.one_worker.proofs.Readiness.{ready_of}
use Rattle.one_worker.proofs.sweep.SerialSweep.scan_to_next.Goals as goal

pub scan_to_next-requires : goal.scan_to_next-requires
scan_to_next-requires g c =
    record { hand = (ready_of _ c.self.invariant).scan (subst (λ (v : SerialValue). CanScan (setting_in v) v.workspace.worker) (sym c.self.view_is) c.requires.can) }

pub invariant_of-self : goal.invariant_of-self
invariant_of-self g c =
    acted_or _ c.scan_to_next.result c.scan_to_next.new.self (record c.self.inside.sweep { worker = after_scan c.self.inside.sweep.worker }) c.self.invariant c.scan_to_next.ensures.some c.scan_to_next.ensures.none
    (λ is. acted_alone _ Scanned c.scan_to_next.new.self c.self.invariant (subst (λ (v : SerialValue). CanScan (setting_in v) v.workspace.worker) (sym c.self.view_is) c.requires.can) is (scan_won c.self.inside.sweep.worker) (λ h t. t))
