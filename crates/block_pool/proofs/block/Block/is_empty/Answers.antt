use Rattle.std.proofs.Common.{rules}
use Rattle.block_pool.proofs.block.Block.is_empty.Goals as goal

pub returns : goal.returns
returns g c = search rules
