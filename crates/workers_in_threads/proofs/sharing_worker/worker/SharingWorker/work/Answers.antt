use Rattle.std.proofs.Common.{◌∙◌}
use Rattle.workers_in_threads.specs.Sharing.{IsSame}
use Rattle.workers_in_threads.proofs.Keeping.{same_as, same_both, same_over}
use Rattle.workers_in_threads.proofs.sharing_worker.worker.SharingWorker.work.Goals.{then-holds_block+then-not-has_proposal+else-is_err, else-holds_block}
use Rattle.workers_in_threads.proofs.sharing_worker.worker.SharingWorker.work.Goals as goal

pub returns-in_default-clause-same : goal.returns-in_default-clause-same
returns-in_default-clause-same g c =
    let swept : IsSame g.C.Cells.at_home c.loop.self c.if-holds_block.self = elim c.if-holds_block.branch [
      | then-holds_block+then-not-has_proposal+else-is_err w ↦ same_over g.C.Cells.fits g.C.Cells.limit g.C.Cells.known g.C.Cells.won g.C.Cells.at_home _ _ _ _ w.reserve_sweep.ensures w.swept-self.ensures.same w.self-is
      | else-holds_block w ↦ same_as g.C.Cells.fits g.C.Cells.limit g.C.Cells.known g.C.Cells.won g.C.Cells.at_home _ _ w.self-is
    ] in
    same_both g.C.Cells.fits g.C.Cells.limit g.C.Cells.known g.C.Cells.won g.C.Cells.at_home _ _ _ c.loop.invariant.same swept

pub loop-preserved : goal.loop-preserved
loop-preserved g c =
    let swept : IsSame g.C.Cells.at_home c.loop.self c.if-holds_block.self = elim c.if-holds_block.branch [
      | then-holds_block+then-not-has_proposal+else-is_err w ↦ same_over g.C.Cells.fits g.C.Cells.limit g.C.Cells.known g.C.Cells.won g.C.Cells.at_home _ _ _ _ w.reserve_sweep.ensures w.swept-self.ensures.same w.self-is
      | else-holds_block w ↦ same_as g.C.Cells.fits g.C.Cells.limit g.C.Cells.known g.C.Cells.won g.C.Cells.at_home _ _ w.self-is
    ] in
    record { same = same_both g.C.Cells.fits g.C.Cells.limit g.C.Cells.known g.C.Cells.won g.C.Cells.at_home _ _ _ (same_both g.C.Cells.fits g.C.Cells.limit g.C.Cells.known g.C.Cells.won g.C.Cells.at_home _ _ _ c.loop.invariant.same swept) c.work_once.ensures.same; voice = c.work_once.ensures.voice; heard = c.work_once.ensures.heard ∙ c.loop.invariant.heard }

pub returns-in-Ok-Some-clause-same : goal.returns-in-Ok-Some-clause-same
returns-in-Ok-Some-clause-same g c =
    let swept : IsSame g.C.Cells.at_home c.loop.self c.if-holds_block.self = elim c.if-holds_block.branch [
      | then-holds_block+then-not-has_proposal+else-is_err w ↦ same_over g.C.Cells.fits g.C.Cells.limit g.C.Cells.known g.C.Cells.won g.C.Cells.at_home _ _ _ _ w.reserve_sweep.ensures w.swept-self.ensures.same w.self-is
      | else-holds_block w ↦ same_as g.C.Cells.fits g.C.Cells.limit g.C.Cells.known g.C.Cells.won g.C.Cells.at_home _ _ w.self-is
    ] in
    same_both g.C.Cells.fits g.C.Cells.limit g.C.Cells.known g.C.Cells.won g.C.Cells.at_home _ _ _ (same_both g.C.Cells.fits g.C.Cells.limit g.C.Cells.known g.C.Cells.won g.C.Cells.at_home _ _ _ c.loop.invariant.same swept) c.work_once.ensures.same

pub returns-in-Err-clause-same : goal.returns-in-Err-clause-same
returns-in-Err-clause-same g c =
    let swept : IsSame g.C.Cells.at_home c.loop.self c.if-holds_block.self = elim c.if-holds_block.branch [
      | then-holds_block+then-not-has_proposal+else-is_err w ↦ same_over g.C.Cells.fits g.C.Cells.limit g.C.Cells.known g.C.Cells.won g.C.Cells.at_home _ _ _ _ w.reserve_sweep.ensures w.swept-self.ensures.same w.self-is
      | else-holds_block w ↦ same_as g.C.Cells.fits g.C.Cells.limit g.C.Cells.known g.C.Cells.won g.C.Cells.at_home _ _ w.self-is
    ] in
    same_both g.C.Cells.fits g.C.Cells.limit g.C.Cells.known g.C.Cells.won g.C.Cells.at_home _ _ _ (same_both g.C.Cells.fits g.C.Cells.limit g.C.Cells.known g.C.Cells.won g.C.Cells.at_home _ _ _ c.loop.invariant.same swept) c.work_once.ensures.same
