use Rattle.std.proofs.Common.{◌≡◌, Some, ap}
use Rattle.large_objects.specs.LargeValue.{LargeValue, large_at}
use Rattle.large_objects.proofs.OnePool.{give_back_blocks, removed}
use Rattle.large_objects.proofs.table.LargeTable.remove.Goals as goal

pub returns-clause-pool_blocks : goal.returns-clause-pool_blocks
returns-clause-pool_blocks g c =
    let old = ap (λ (v : LargeValue). v.slots) c.self.view_is in
    let found : large_at c.args.self.now c.args.number.number ≡ Some c.remove-object.result = rw (← c.self.view_is) c.remove-object.ensures.value in
    let gone = removed c.args.self.now _ c.self.inside.slab.slots c.args.number.number old c.remove-object.ensures.slots c.remove-object.ensures.key_is_next in
    rw gone (give_back_blocks c.args.self.now c.args.pool.now c.give_back_all.new.pool c.args.number.number c.remove-object.result c.blocks-2.result.now c.requires.blocks found c.blocks-2.ensures c.give_back_all.ensures.free c.give_back_all.ensures.limit)
