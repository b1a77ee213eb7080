use Rattle.std.proofs.Common.{◌≡◌, ℕ, ◌<◌, map, Some}
use Rattle.std.specs.Prelude.{slice_get}
use Rattle.layout.specs.declared.place.Place.{Place}
use Rattle.layout.specs.Place.{place_word}
use Rattle.steps.specs.Words.{target_of_word}
use Rattle.heap.specs.Lowest.{lowest_in, MayBeYounger}
use Rattle.heap.proofs.remembering.lowest.may_lead_younger.Given as goal

-- none so far
abbrev pub invariant-loop-word : goal.invariant-loop-word
invariant-loop-word l = (field : ℕ) (place : Place) → field < l.word-index → slice_get (map target_of_word l.words) field ≡ Some (Some (place_word place)) → MayBeYounger (lowest_in l.lowest) l.generation place → ⊥
