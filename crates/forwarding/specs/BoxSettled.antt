-- Whether all that passes know was won.
use Rattle.std.specs.Prelude.{◌≡◌, ℕ, List, All, Option, Some}
use Rattle.std.specs.List.{Contains}
use Rattle.layout.specs.declared.place.Place.{Place}
use Rattle.forwarding.specs.Settled.{Pairs, all_pairs}

-- each pair that a pass knows was won by some pass
abbrev pub AllWon : {P : Type 0} → (P → ℕ → Option Place) → (P → Pairs) → List P → Type 0
AllWon known won passes = All (λ p. (name : ℕ) (place : Place) → known p name ≡ Some place → Contains (all_pairs won passes) (name, place)) passes
