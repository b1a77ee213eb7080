use Rattle.std.proofs.Common.{ℕ, List, ◌++◌, map, sym, ap, ◌∙◌}
use Rattle.model.specs.Destination.{numbers_from}
use Rattle.reference.proofs.PlainLemmas.{flat_map-numbers}
use Rattle.reference.proofs.census_text.all_steps.Goals as goal

pub loop-generation-preserved : goal.loop-generation-preserved
loop-generation-preserved g c =
    let f : ℕ → List (ℕ × ℕ) = λ h. map (λ s. (h, s)) (numbers_from 0 c.args.steps) in
    c.in_ok-push_steps.ensures
    ∙ ap (λ xs. xs ++ f c.loop-generation.generation) c.loop-generation.invariant
    ∙ sym (flat_map-numbers f c.loop-generation.generation)
