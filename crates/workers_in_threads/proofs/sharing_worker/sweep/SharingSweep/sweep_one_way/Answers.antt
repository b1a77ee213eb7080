use Rattle.std.proofs.Common.{refl}
use Rattle.workers_in_threads.proofs.Keeping.{same_as, same_both}
use Rattle.workers_in_threads.proofs.sharing_worker.sweep.SharingSweep.sweep_one_way.Goals as goal

pub loop-self-init : goal.loop-self-init
loop-self-init g c = record { same = same_as g.C.Cells.fits g.C.Cells.limit g.C.Cells.known g.C.Cells.won g.C.Cells.at_home _ _ refl; proposal = c.requires.proposal }

pub loop-self-smaller : goal.loop-self-smaller
loop-self-smaller g c = c.sweep_once.ensures.some c.if-sweep_once.true

pub loop-self-preserved : goal.loop-self-preserved
loop-self-preserved g c = record { same = same_both g.C.Cells.fits g.C.Cells.limit g.C.Cells.known g.C.Cells.won g.C.Cells.at_home _ _ _ c.loop-self.invariant.same c.sweep_once.ensures.same; proposal = c.sweep_once.ensures.proposal }

pub returns-else-sweep_once : goal.returns-else-sweep_once
returns-else-sweep_once g c = same_both g.C.Cells.fits g.C.Cells.limit g.C.Cells.known g.C.Cells.won g.C.Cells.at_home _ _ _ c.loop-self.invariant.same c.sweep_once.ensures.same

pub returns-after-loop-self : goal.returns-after-loop-self
returns-after-loop-self g c = c.loop-self.invariant.same
