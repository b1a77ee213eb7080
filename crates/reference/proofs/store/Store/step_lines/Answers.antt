use Rattle.std.proofs.Common.{◌≡◌, ℕ, List, sym, ap, ◌∙◌}
use Rattle.std.proofs.lemmas.List.{take_all}
use Rattle.std.proofs.lemmas.List.Folds.{flat_map-map}
use Rattle.std.specs.Prelude.{flat_map}
use Rattle.model.specs.Destination.{all_steps}
use Rattle.model.specs.Census.{step_count}
use Rattle.model.specs.Store.{present}
use Rattle.model.specs.Text.{step_line}
use Rattle.reference.proofs.store.Store.step_lines.Goals as goal

pub returns : goal.returns
returns g c =
    let line : ℕ × ℕ → List ℕ = λ at. step_line (step_count c.args.config.now.block_words (present c.args.self.now) at) in
    let steps : c.as_slice-generation-items.result.now ≡ all_steps c.args.config.now.shape =
    c.as_slice-generation-items.ensures.value ∙ c.in_ok-all_steps.ensures ∙ ap (λ s. all_steps s.shape) c.config.view_is in
    c.loop-generation.invariant
    ∙ ap (flat_map line) (take_all c.loop-generation.generation-index c.as_slice-generation-items.result.now c.loop-generation-test.false ∙ steps)
    ∙ sym (flat_map-map step_line (step_count c.args.config.now.block_words (present c.args.self.now)) (all_steps c.args.config.now.shape))
