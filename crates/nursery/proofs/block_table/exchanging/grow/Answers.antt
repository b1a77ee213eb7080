use Rattle.std.proofs.Common.{arith}
use Rattle.nursery.proofs.block_table.exchanging.grow.Goals as goal

pub returns-clause-ok : goal.returns-clause-ok
returns-clause-ok g c = omega arith
