use Rattle.std.specs.Prelude.{IsSome, IsTrue, ◌↔◌}
use Rattle.std.proofs.Common.{sym, subst}
use Rattle.heap_objects.proofs.Filling.{small_in, own_sound, room_is}
use Rattle.heap_objects.proofs.heap_space.space.Space.has_room.Goals as goal

pub has_room-requires : goal.has_room-requires
has_room-requires g c =
    let mutator = rw (← c.self.view_is) at c.requires.mutator in
    let small = rw (← c.self.view_is) at c.requires.small in
    rw c.deref.ensures.value (small_in _ _ _ _ c.self.invariant.space c.args.mutator c.index.result.now mutator c.index.ensures c.args.size small)

pub returns : goal.returns
returns g c =
    let mutator = rw (← c.self.view_is) at c.requires.mutator in
    let sound = own_sound _ _ _ _ c.self.invariant.space c.args.mutator c.index.result.now mutator c.index.ensures in
    let has = (rw c.deref.ensures.value at c.has_room.ensures) c.self.inside.config.block_words sound in
    rw (← c.self.view_is) (subst (λ r. IsTrue c.has_room.result ↔ IsSome r) (sym (room_is _ _ _ _ c.self.invariant.space c.args.mutator c.index.result.now mutator c.index.ensures c.args.size)) has)
