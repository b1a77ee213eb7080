use Rattle.std.proofs.Common.{subst, sym}
use Rattle.workers_in_threads.specs.Sharing.{IsSame}
use Rattle.workers_in_threads.proofs.Keeping.{same_as, same_both}
use Rattle.workers_in_threads.proofs.sharing_worker.worker.SharingWorker.swept.Goals as goal
use Rattle.workers_in_threads.proofs.sharing_worker.worker.SharingWorker.swept.Goals.{then-goes_one_way, else-goes_one_way}

pub returns-in-Err : goal.returns-in-Err
returns-in-Err g c = record { same = same_as g.C.Cells.fits g.C.Cells.limit g.C.Cells.known g.C.Cells.won g.C.Cells.at_home _ _ c.in-Err.ensures.err }

pub returns : goal.returns
returns g c =
    let swept : IsSame g.C.Cells.at_home c.in-Ok.sweep c.if-goes_one_way.sweep = elim c.if-goes_one_way.branch [
      | then-goes_one_way w ↦ subst (IsSame g.C.Cells.at_home c.in-Ok.sweep) (sym w.sweep-is) w.sweep_one_way.ensures
      | else-goes_one_way w ↦ subst (IsSame g.C.Cells.at_home c.in-Ok.sweep) (sym w.sweep-is) w.sweep_on.ensures
    ] in
    let opened = same_as g.C.Cells.fits g.C.Cells.limit g.C.Cells.known g.C.Cells.won g.C.Cells.at_home _ _ c.in-Ok.ensures.ok in
    record { same = subst (IsSame g.C.Cells.at_home c.args.self) (sym c.closed.ensures) (same_both g.C.Cells.fits g.C.Cells.limit g.C.Cells.known g.C.Cells.won g.C.Cells.at_home _ _ _ opened swept) }
