use Rattle.nursery.proofs.Nurseries.{current_block, current_in_table, room_iff, one_size}
use Rattle.nursery.proofs.filling.Nursery.has_room.Goals as goal

pub block_for-requires-clause-in_range : goal.block_for-requires-clause-in_range
block_for-requires-clause-in_range g c = current_in_table _ _ _ c.requires.sound

pub returns : goal.returns
returns g c = λ words is.
    let b = current_block words _ _ is in
    let same = one_size _ _ _ _ c.requires.sound is in
    rw c.is_some.ensures (room_iff words _ _ is c.args.size (rw same at c.requires.small) c.block_for.result (c.block_for.ensures b.0 b.1))
