use Rattle.workers_in_threads.proofs.Settled.{threads_settle as settle}
use Rattle.workers_in_threads.proofs.joining.threads_settle.Goals as goal

pub returns : goal.returns
returns g c = λ known won all reports blocks places r. settle all reports blocks places r
