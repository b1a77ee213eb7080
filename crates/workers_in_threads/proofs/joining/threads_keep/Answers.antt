use Rattle.workers_in_threads.proofs.Joined.{threads_keep as keep}
use Rattle.workers_in_threads.proofs.joining.threads_keep.Goals as goal

pub returns : goal.returns
returns g c = λ known won all. keep all
