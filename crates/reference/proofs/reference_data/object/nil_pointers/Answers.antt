use Rattle.std.proofs.Common.{[], ◌∷◌, ◌++◌, ap, ◌∙◌, None}
use Rattle.std.proofs.lemmas.List.{replicate-append-replicate}
use Rattle.reference.proofs.reference_data.object.nil_pointers.Goals as goal

pub loop-field-preserved : goal.loop-field-preserved
loop-field-preserved g c =
    c.in_ok-push.ensures.items ∙ ap (λ xs. xs ++ None ∷ []) c.loop-field.invariant ∙ replicate-append-replicate c.loop-field._field 1 None
