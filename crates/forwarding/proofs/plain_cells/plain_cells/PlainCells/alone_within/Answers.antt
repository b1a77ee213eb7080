use Rattle.std.proofs.Common.{arith}
use Rattle.forwarding.proofs.PlainStart.{fresh_fits}
use Rattle.forwarding.proofs.plain_cells.plain_cells.PlainCells.alone_within.Goals as goal

pub returns-clause-fits : goal.returns-clause-fits
returns-clause-fits g c = rw (c.new.ensures, c.in_ok-cells.ensures) (fresh_fits c.args.count 1 0 (omega arith))
