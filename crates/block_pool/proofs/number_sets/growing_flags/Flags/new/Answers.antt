use Rattle.std.proofs.Common.{ap}
use Rattle.block_pool.specs.NumberSetsWords.{flags_of}
use Rattle.block_pool.proofs.number_sets.growing_flags.Flags.new.Goals as goal

pub returns : goal.returns
unfolding flags_of
returns g c = ap flags_of c.new.ensures.items
