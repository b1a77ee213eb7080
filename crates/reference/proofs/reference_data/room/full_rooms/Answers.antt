use Rattle.std.proofs.Common.{[], ◌∷◌, ◌++◌, ap, ◌∙◌}
use Rattle.std.proofs.lemmas.List.{replicate-append-replicate}
use Rattle.model.specs.Room.{full_room}
use Rattle.reference.proofs.reference_data.room.full_rooms.Goals as goal

pub loop-mutator-preserved : goal.loop-mutator-preserved
loop-mutator-preserved g c =
    c.in_ok-push.ensures.items ∙ ap (λ x. c.loop-mutator.rooms.items ++ x ∷ []) c.full.ensures ∙ ap (λ xs. xs ++ (full_room c.args.blocks) ∷ []) c.loop-mutator.invariant ∙ replicate-append-replicate c.loop-mutator._mutator 1 (full_room c.args.blocks)
