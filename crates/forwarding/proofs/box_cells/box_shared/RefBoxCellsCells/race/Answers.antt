use Rattle.std.proofs.Common.{rules}
use Rattle.forwarding.proofs.box_cells.box_shared.RefBoxCellsCells.race.Goals as goal

pub returns-clause-known : goal.returns-clause-known
returns-clause-known c = search rules

pub returns-clause-won : goal.returns-clause-won
returns-clause-won c = search rules
