use Rattle.workers_in_threads.proofs.Refused.{stuck_apart}
use Rattle.workers_in_threads.proofs.joining.threads_are_stuck.Goals as goal

pub returns : goal.returns
returns g c = λ known won all. stuck_apart all
