-- What plain cells remember for contracts alone.
use Rattle.std.specs.Prelude.{ℕ, List, slice_set, Option, Some}
use Rattle.layout.specs.declared.place.Place.{Place}
use Rattle.forwarding.specs.declared.plain_cells.held.Held.{Held}

-- the name's cell holds the place, which the pass with the number won
abbrev pub filled : List (Option Held) → ℕ → ℕ → Place → List (Option Held)
filled held number name place = slice_set held name (Some (record { place = place; winner = number }))
