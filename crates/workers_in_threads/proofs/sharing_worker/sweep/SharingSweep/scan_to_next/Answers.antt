use Rattle.std.proofs.Common.{sym, subst}
use Rattle.workers.specs.WorkerSteps.{CanScan, after_scan}
use Rattle.workers.specs.WorkerRun.{Scanned}
use Rattle.scavenge.proofs.Unchanged.{scan_won}
use Rattle.workers_in_threads.specs.SharingValue.{SharingValue, setting_in, worker_of}
use Rattle.workers_in_threads.proofs.Readiness.{ready_in}
use Rattle.workers_in_threads.proofs.Keeping.{acted_alone, scans_alone, acted_or}
use Rattle.workers_in_threads.proofs.sharing_worker.sweep.SharingSweep.scan_to_next.Goals as goal

pub scan_to_next-requires : goal.scan_to_next-requires
scan_to_next-requires g c =
    record { hand = (ready_in _ c.self.invariant).scan (subst (λ (v : SharingValue g.row.C.Denot g.row.C-Pass.Denot g.row.A.Denot). CanScan (setting_in v) (worker_of v)) (sym c.self.view_is) c.requires.can) }

pub invariant_of-self : goal.invariant_of-self
invariant_of-self g c =
    acted_or _ _ _ _ g.C.Cells.at_home _ c.scan_to_next.result c.scan_to_next.new.self (record c.self.inside.sweep { worker = after_scan c.self.inside.sweep.worker }) c.self.invariant c.scan_to_next.ensures.some c.scan_to_next.ensures.none
    (λ is. acted_alone _ _ _ _ g.C.Cells.at_home _ Scanned c.scan_to_next.new.self c.self.invariant scans_alone
    (subst (λ (v : SharingValue g.row.C.Denot g.row.C-Pass.Denot g.row.A.Denot). CanScan (setting_in v) (worker_of v)) (sym c.self.view_is) c.requires.can) is (scan_won c.self.inside.sweep.worker))
