use Rattle.std.proofs.Common.{◌≡◌, take, string_bytes}
use Rattle.std.specs.Prelude.{flat_map}
use Rattle.model.specs.Census.{step_count}
use Rattle.model.specs.Store.{present}
use Rattle.model.specs.Text.{step_line}
use Rattle.reference.proofs.store.Store.step_lines.Given as goal

abbrev pub invariant-loop-generation : goal.invariant-loop-generation
invariant-loop-generation g l = string_bytes l.text ≡ flat_map (λ at. step_line (step_count l.config.block_words (present l.self) at)) (take l.generation-index l.generation-items)
