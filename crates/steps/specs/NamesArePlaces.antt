-- Names that are words of places.
use Rattle.std.specs.Prelude.{◌≡◌, ℕ, Some}
use Rattle.model.specs.Graph.{Graph, Object, object_at}
use Rattle.layout.specs.declared.place.Place.{Place}
use Rattle.layout.specs.Place.{place_word}

-- the name of each object is the word of a place
abbrev pub NamesArePlaces : Graph → Type 0
NamesArePlaces graph = (name : ℕ) (o : Object) → object_at graph name ≡ Some o → (place : Place) × (place_word place ≡ name)
