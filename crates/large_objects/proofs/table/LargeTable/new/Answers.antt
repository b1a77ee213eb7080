use Rattle.large_objects.proofs.OnePool.{no_blocks}
use Rattle.large_objects.proofs.table.LargeTable.new.Goals as goal

pub returns-clause-pool_blocks : goal.returns-clause-pool_blocks
returns-clause-pool_blocks g c = λ pool. no_blocks _ pool c.new.ensures.empty
