use Rattle.std.proofs.Common.{sym, subst}
use Rattle.workers.specs.WorkerSteps.{CanScan, after_scan}
use Rattle.workers.specs.WorkerRun.{Scanned}
use Rattle.one_worker.specs.SerialValue.{SerialValue, setting_in}
use Rattle.one_worker.proofs.Keeping.{acted_alone, either_or}
use Rattle.scavenge.proofs.Unchanged.{scan_won}
use Rattle.one_worker.proofs.Readiness.{ready_of}
use Rattle.one_worker.proofs.serial.SerialCollection.scan_to_next.Goals as goal

pub scan_to_next-requires-clause-hand : goal.scan_to_next-requires-clause-hand
scan_to_next-requires-clause-hand g c =
    (ready_of _ c.self.invariant).scan (subst (λ (v : SerialValue). CanScan (setting_in v) v.workspace.worker) (sym c.self.view_is) c.requires.can)

pub invariant_of-self : goal.invariant_of-self
invariant_of-self g c =
    either_or _ c.scan_to_next.result c.scan_to_next.new.self (record c.self.inside.workspace { worker = after_scan c.self.inside.workspace.worker }) c.self.invariant c.scan_to_next.ensures.some c.scan_to_next.ensures.none c.scan_to_next.ensures.err
    (λ is. acted_alone _ Scanned c.scan_to_next.new.self c.self.invariant (subst (λ (v : SerialValue). CanScan (setting_in v) v.workspace.worker) (sym c.self.view_is) c.requires.can) is (scan_won c.self.inside.workspace.worker) (λ h t. t))
