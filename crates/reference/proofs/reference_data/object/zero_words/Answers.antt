use Rattle.std.proofs.Common.{[], ◌∷◌, ◌++◌, ap, ◌∙◌}
use Rattle.std.proofs.lemmas.List.{replicate-append-replicate}
use Rattle.reference.proofs.reference_data.object.zero_words.Goals as goal

pub loop-field-preserved : goal.loop-field-preserved
loop-field-preserved g c =
    c.in_ok-push.ensures.items ∙ ap (λ xs. xs ++ 0 ∷ []) c.loop-field.invariant ∙ replicate-append-replicate c.loop-field._field 1 0
