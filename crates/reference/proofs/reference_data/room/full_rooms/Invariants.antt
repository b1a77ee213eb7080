use Rattle.std.proofs.Common.{◌≡◌, replicate}
use Rattle.model.specs.Room.{full_room}
use Rattle.reference.proofs.reference_data.room.full_rooms.Given as goal

abbrev pub invariant-loop-mutator : goal.invariant-loop-mutator
invariant-loop-mutator g l = l.rooms.items ≡ replicate l._mutator (full_room l.blocks)
