use Rattle.workers.proofs.RunBrings.{refused_below}
use Rattle.workers.proofs.alone.refused_run_below_bound.Goals as goal

pub returns : goal.returns
returns c = λ graph g shape block_words d n slots free s r only event x words l. refused_below graph g shape block_words d n slots free s r only event x words l
