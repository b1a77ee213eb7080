use Rattle.std.proofs.Common.{rules}
use Rattle.forwarding.proofs.box_cells.box_settle.is_each_won.Goals as goal

pub returns : goal.returns
returns c = search rules
