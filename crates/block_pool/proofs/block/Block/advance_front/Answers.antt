use Rattle.std.proofs.Common.{rules}
use Rattle.block_pool.proofs.block.Block.advance_front.Goals as goal

pub returns : goal.returns
returns g c = search rules
