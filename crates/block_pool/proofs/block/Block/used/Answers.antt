use Rattle.std.proofs.Common.{sym, ap}
use Rattle.block_pool.proofs.BlockLemmas.{has_objects}
use Rattle.block_pool.proofs.block.Block.used.Goals as goal

pub returns-clause-value : goal.returns-clause-value
returns-clause-value g c =
    sym (has_objects _ _ _ _ _ _ _ c.self.invariant (ap (λ v. v.objects) c.self.view_is)).used_is
