use Rattle.std.proofs.Common.{rules}
use Rattle.forwarding.proofs.box_cells.box_shared.RefBoxCellsCells.look.Goals as goal

pub returns-clause-known : goal.returns-clause-known
returns-clause-known c = search rules
