use Rattle.workers_in_threads.proofs.Beginning.{begun}
use Rattle.workers_in_threads.proofs.sharing_worker.worker.SharingWorker.new.Goals as goal

pub invariant_of-result : goal.invariant_of-result
invariant_of-result g c =
    begun _ _ _ _ _ c.requires.shared.ready c.requires.member c.requires.workspace.config c.requires.workspace.names c.requires.pass.0 c.requires.cells c.requires.pass.1 c.requires.shared.free c.requires.draws c.requires.seat
    c.requires.shared.lanes c.requires.shared.key c.requires.workspace.worker
