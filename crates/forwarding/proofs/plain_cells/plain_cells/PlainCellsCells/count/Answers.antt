use Rattle.std.proofs.Common.{rules}
use Rattle.forwarding.proofs.PlainKeeps.{as_many_words}
use Rattle.forwarding.proofs.plain_cells.plain_cells.PlainCellsCells.count.Goals as goal

pub returns : goal.returns
returns g c = let many = as_many_words _ _ _ c.self.invariant in search rules
