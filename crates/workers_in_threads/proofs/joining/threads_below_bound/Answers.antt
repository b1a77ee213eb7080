use Rattle.workers_in_threads.proofs.Refused.{below_bound}
use Rattle.workers_in_threads.proofs.joining.threads_below_bound.Goals as goal

pub returns : goal.returns
returns g c = λ known won all words l. below_bound all words l
