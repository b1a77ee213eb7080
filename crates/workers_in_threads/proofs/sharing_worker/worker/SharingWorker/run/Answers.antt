use Rattle.std.proofs.Common.{◌∙◌}
use Rattle.workers_in_threads.proofs.Keeping.{same_as, same_both}
use Rattle.workers_in_threads.proofs.sharing_worker.worker.SharingWorker.run.Goals as goal

pub returns-in-Err-clause-same : goal.returns-in-Err-clause-same
returns-in-Err-clause-same g c = same_both g.C.Cells.fits g.C.Cells.limit g.C.Cells.known g.C.Cells.won g.C.Cells.at_home _ _ _ c.loop.invariant.same c.work-worker.ensures.same

pub returns-in-Ok-Told-clause-same : goal.returns-in-Ok-Told-clause-same
returns-in-Ok-Told-clause-same g c = same_both g.C.Cells.fits g.C.Cells.limit g.C.Cells.known g.C.Cells.won g.C.Cells.at_home _ _ _ c.loop.invariant.same c.work-worker.ensures.same

pub returns-in-Ended-clause-same : goal.returns-in-Ended-clause-same
returns-in-Ended-clause-same g c = same_both g.C.Cells.fits g.C.Cells.limit g.C.Cells.known g.C.Cells.won g.C.Cells.at_home _ _ _ (same_both g.C.Cells.fits g.C.Cells.limit g.C.Cells.known g.C.Cells.won g.C.Cells.at_home _ _ _ c.loop.invariant.same c.work-worker.ensures.same) (same_as g.C.Cells.fits g.C.Cells.limit g.C.Cells.known g.C.Cells.won g.C.Cells.at_home _ _ c.rest.ensures.worker)

pub returns-in-Left-clause-same : goal.returns-in-Left-clause-same
returns-in-Left-clause-same g c = same_both g.C.Cells.fits g.C.Cells.limit g.C.Cells.known g.C.Cells.won g.C.Cells.at_home _ _ _ (same_both g.C.Cells.fits g.C.Cells.limit g.C.Cells.known g.C.Cells.won g.C.Cells.at_home _ _ _ c.loop.invariant.same c.work-worker.ensures.same) (same_as g.C.Cells.fits g.C.Cells.limit g.C.Cells.known g.C.Cells.won g.C.Cells.at_home _ _ c.rest.ensures.worker)

pub loop-preserved : goal.loop-preserved
loop-preserved g c = record { same = same_both g.C.Cells.fits g.C.Cells.limit g.C.Cells.known g.C.Cells.won g.C.Cells.at_home _ _ _ (same_both g.C.Cells.fits g.C.Cells.limit g.C.Cells.known g.C.Cells.won g.C.Cells.at_home _ _ _ c.loop.invariant.same c.work-worker.ensures.same) (same_as g.C.Cells.fits g.C.Cells.limit g.C.Cells.known g.C.Cells.won g.C.Cells.at_home _ _ c.rest.ensures.worker); rest = c.rest.ensures.rest; busy = c.rest.ensures.woken c.in-Woken.is; voice = c.rest.ensures.voice; heard = c.rest.ensures.heard ∙ c.work-worker.ensures.heard ∙ c.loop.invariant.heard }
