use Rattle.std.proofs.Common.{◌≡◌, ◌-◌, ◌<◌, length, ap, arith, get_or}
use Rattle.std.proofs.lemmas.List.{get_or_read}
use Rattle.block_pool.proofs.BlockLemmas.{has_objects, is_taken_back}
use Rattle.block_pool.proofs.block.Block.take_back_last.Goals as goal

pub invariant_of-self : goal.invariant_of-self
invariant_of-self g c =
    let count : length c.args.self.now.objects ≡ c.self.inside.len = (has_objects _ _ _ _ _ _ _ c.self.invariant (ap (λ v. v.objects) c.self.view_is)).count in
    let front : c.self.inside.front ≡ c.args.self.now.front = ap (λ v. v.front) c.self.view_is in
    let before : c.self.inside.front < c.self.inside.len = omega (arith, c.requires) in
    let at : c.index.result.now ≡ get_or c.self.inside.offsets.items (c.self.inside.len - 1) 0 =
    get_or_read c.self.inside.offsets.items (c.self.inside.len - 1) _ (omega (arith, c.self.invariant.len_in_offsets)) c.index.ensures 0
    in
    rw at (is_taken_back _ _ _ _ _ _ c.self.invariant before).sound
