use Rattle.std.proofs.Common.{ℕ, List, [], ◌∷◌, ◌++◌, map, sym, ap, ◌∙◌}
use Rattle.std.proofs.lemmas.List.{map-append}
use Rattle.model.specs.Destination.{numbers_from}
use Rattle.reference.specs.Plain.{steps_within}
use Rattle.reference.proofs.PlainLemmas.{rows-numbers}
use Rattle.reference.proofs.store.Store.rows.Goals as goal

pub loop-name-preserved : goal.loop-name-preserved
loop-name-preserved g c =
    let f : ℕ → List ℕ = steps_within c.args.self.now c.args.limit in
    ap (map (λ r. r.items)) c.in_ok-push.ensures.items
    ∙ map-append (λ r. r.items) c.loop-name.rows.items (c.in_ok-steps_within.field-0 ∷ [])
    ∙ ap (λ xs. xs ++ c.in_ok-steps_within.field-0.items ∷ []) c.loop-name.invariant
    ∙ ap (λ x. map f (numbers_from 0 c.loop-name.name) ++ x ∷ []) c.in_ok-steps_within.ensures
    ∙ sym (rows-numbers f c.loop-name.name)
