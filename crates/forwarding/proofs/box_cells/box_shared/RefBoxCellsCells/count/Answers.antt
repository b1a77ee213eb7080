use Rattle.std.proofs.Common.{rules}
use Rattle.forwarding.proofs.box_cells.box_shared.RefBoxCellsCells.count.Goals as goal

pub returns : goal.returns
returns c = search rules
