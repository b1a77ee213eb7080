-- What is known by a list of pairs.
use Rattle.std.specs.Prelude.{◌≡◌, ℕ, ◌==◌, if◌then◌else◌, [], ◌∷◌, Option, Some, None}
use Rattle.layout.specs.declared.place.Place.{Place}
use Rattle.forwarding.specs.Settled.{Pairs}

-- the place of the first pair with the name
abbrev pub known_in : Pairs → ℕ → Option Place
known_in [] name = None
known_in (x ∷ xs) name = if x.0 == name then Some x.1 else known_in xs name

-- what was known of the name is what the cell shows
abbrev pub Lasts : Pairs → ℕ → Option Place → Type 0
Lasts known name r = (p : Place) → known_in known name ≡ Some p → r ≡ Some p
