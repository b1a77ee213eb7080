-- By which number among flags a place is marked, and what holds of the fields of a set of places.
use Rattle.std.specs.Prelude.{◌≡◌, ℕ, ◌+◌, ◌*◌, Bool, false, List, map, nat_eq, get_or}
use Rattle.std.specs.List.{IsDistinct}
use Rattle.layout.specs.declared.place.Place.{Place}
use Rattle.layout.specs.declared.place.Place.TheVariants.{Small, Large}
use Rattle.layout.specs.Place.{place_word}
use Rattle.model.specs.Reached.{has}

-- 513 numbers for each block: one for each offset, and the last for the large object with that number
abbrev pub mark_of : Place → ℕ
mark_of (Small at) = at.block * 513 + at.offset
mark_of (Large of) = of.number * 513 + 512

-- each place is there once, and a place's flag is set where the place is there
pub record IsPlaceSet (places : List Place) (flags : List Bool) : Type 0 where
  pub once : IsDistinct nat_eq (map place_word places)
  pub marked : (place : Place) → get_or flags (mark_of place) false ≡ has (map place_word places) (place_word place)
