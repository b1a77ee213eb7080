use Rattle.std.proofs.Common.{arith}
use Rattle.std.proofs.lemmas.Grind.{common_steps}
use Rattle.forwarding.proofs.box_cells.box_cells.BoxCells.count.Goals as goal

pub returns : goal.returns
returns c = grind (arith, common_steps)
