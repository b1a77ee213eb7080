use Rattle.workers.proofs.RunBrings.{ended_brings}
use Rattle.workers.proofs.alone.ended_run_brings.Goals as goal

pub returns : goal.returns
returns c = λ graph g shape block_words d n slots free s r e small all only empty. ended_brings graph g shape block_words d n slots free s r only e small all empty
