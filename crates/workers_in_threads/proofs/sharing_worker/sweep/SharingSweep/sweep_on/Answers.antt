use Rattle.std.proofs.Common.{refl}
use Rattle.workers_in_threads.proofs.Keeping.{same_as, same_both}
use Rattle.workers_in_threads.proofs.sharing_worker.sweep.SharingSweep.sweep_on.Goals as goal

pub loop-init : goal.loop-init
loop-init g c = record { same = same_as g.C.Cells.fits g.C.Cells.limit g.C.Cells.known g.C.Cells.won g.C.Cells.at_home _ _ refl; proposal = c.requires.proposal }

pub loop-smaller : goal.loop-smaller
loop-smaller g c = c.sweep_once.ensures.some c.loop-test.true

pub loop-preserved : goal.loop-preserved
loop-preserved g c = record { same = same_both g.C.Cells.fits g.C.Cells.limit g.C.Cells.known g.C.Cells.won g.C.Cells.at_home _ _ _ c.loop.invariant.same c.sweep_once.ensures.same; proposal = c.sweep_once.ensures.proposal }

pub returns : goal.returns
returns g c = same_both g.C.Cells.fits g.C.Cells.limit g.C.Cells.known g.C.Cells.won g.C.Cells.at_home _ _ _ c.loop.invariant.same c.sweep_once.ensures.same
