-- What a look and a race tell a pass.
use Rattle.std.specs.Prelude.{◌≡◌, ◌≢◌, ℕ, List, [], ◌∷◌, ◌++◌, Option, Some, None}
use Rattle.layout.specs.declared.place.Place.{Place}
use Rattle.forwarding.specs.declared.cells.outcome.Outcome.{Outcome}
use Rattle.forwarding.specs.declared.cells.outcome.Outcome.TheVariants.{Won, Lost}

-- The name's place is now known as r, as it was if it was known. Nothing else is forgotten or learned
pub record Learns (old new : ℕ → Option Place) (name : ℕ) (r : Option Place) : Type 0 where
  pub told : new name ≡ r
  pub lasting : (p : Place) → old name ≡ Some p → r ≡ Some p
  pub others : (m : ℕ) → m ≢ name → new m ≡ old m

-- the place that the cell shows after a race
abbrev pub place_after : Outcome → Place → Place
place_after Won place = place
place_after (Lost first) place = first

-- who wins knew no place of the name, and has won the pair; who loses has won what it had won
abbrev pub RaceEnds : Option Place → List (ℕ × Place) → List (ℕ × Place) → ℕ → Place → Outcome → Type 0
RaceEnds before old new name place Won = (before ≡ None) × (new ≡ old ++ (name, place) ∷ [])
RaceEnds before old new name place (Lost first) = new ≡ old
