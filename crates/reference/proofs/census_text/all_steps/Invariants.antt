use Rattle.std.proofs.Common.{◌≡◌, map}
use Rattle.std.specs.Prelude.{flat_map}
use Rattle.model.specs.Destination.{numbers_from}
use Rattle.reference.proofs.census_text.all_steps.Given as goal

abbrev pub invariant-loop-generation : goal.invariant-loop-generation
invariant-loop-generation g l = l.found.items ≡ flat_map (λ h. map (λ s. (h, s)) (numbers_from 0 l.steps)) (numbers_from 0 l.generation)
