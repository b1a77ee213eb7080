use Rattle.workers.proofs.SpaceBound.{refused-below}
use Rattle.workers.proofs.refused_below_bound.Goals as goal

pub returns : goal.returns
returns c = λ graph g shape block_words workers destinations drawn words parts r l. refused-below graph g shape block_words workers destinations drawn parts r words l
