use Rattle.std.proofs.Common.{rules}
use Rattle.forwarding.proofs.word_cells.word_cells.WordCells.count.Goals as goal

pub returns : goal.returns
returns g c = search rules
