use Rattle.std.proofs.Common.{ℕ, [], ◌∷◌, ◌++◌, map, sym, ap, ◌∙◌, append_assoc}
use Rattle.model.specs.Destination.{numbers_from}
use Rattle.reference.proofs.PlainLemmas.{rows-numbers}
use Rattle.reference.proofs.census_text.push_steps.Goals as goal

pub loop-step-preserved : goal.loop-step-preserved
loop-step-preserved g c =
    let f : ℕ → ℕ × ℕ = λ s. (c.args.generation, s) in
    c.in_ok-push.ensures.items
    ∙ ap (λ xs. xs ++ f c.loop-step.step ∷ []) c.loop-step.invariant
    ∙ append_assoc c.args.found.now.items (map f (numbers_from 0 c.loop-step.step)) (f c.loop-step.step ∷ [])
    ∙ ap (λ xs. c.args.found.now.items ++ xs) (sym (rows-numbers f c.loop-step.step))
