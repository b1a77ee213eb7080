use Rattle.collector.proofs.ByThreads.{err_is}
use Rattle.collector.proofs.apart.concluded.Goals as goal

pub returns-in-Refused-clause-full : goal.returns-in-Refused-clause-full
returns-in-Refused-clause-full g c = λ e. c.refusal-error.ensures.full (err_is e)

pub returns-in-Refused-clause-stuck : goal.returns-in-Refused-clause-stuck
returns-in-Refused-clause-stuck g c = λ e. c.refusal-error.ensures.stuck (err_is e)
