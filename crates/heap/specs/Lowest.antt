-- In which generation a collection leaves the blocks that it brings, and what may then lead to a younger object.
use Rattle.std.specs.Prelude.{◌≡◌, ℕ, ◌<◌, ◌≤◌, ⊤, List, Option, Some, slice_get, slice_index_or, All}
use Rattle.model.specs.Graph.{Object}
use Rattle.layout.specs.declared.place.SmallPlace.{SmallPlace}
use Rattle.layout.specs.declared.place.Place.{Place}
use Rattle.layout.specs.declared.place.Place.TheVariants.{Small, Large}
use Rattle.layout.specs.Place.{place_word}

-- what a list says of a block's number; a number that it doesn't have is that of a block that isn't brought
abbrev pub lowest_in : List ℕ → ℕ → ℕ
lowest_in generations number = slice_index_or generations number 255

-- nothing that is brought stands in a block below the generation that is said of its number
abbrev pub AreLowest : (ℕ → ℕ) → List (ℕ × Object) → Type 0
AreLowest lowest objects = All (λ e. (at : SmallPlace) → e.0 ≡ place_word (Small at) → lowest at.block ≤ e.1.generation) objects

-- what stands at a place may be younger than generation h: a large object, or one in a block of which a lower generation is said
abbrev pub MayBeYounger : (ℕ → ℕ) → ℕ → Place → Type 0
MayBeYounger lowest h (Small at) = lowest at.block < h
MayBeYounger lowest h (Large of) = ⊤

-- one of the pointers leads to such a place
pub record MayLeadYounger (lowest : ℕ → ℕ) (h : ℕ) (pointers : List (Option ℕ)) : Type 0 where
  pub field : ℕ
  pub place : Place
  pub pointer : slice_get pointers field ≡ Some (Some (place_word place))
  pub younger : MayBeYounger lowest h place
