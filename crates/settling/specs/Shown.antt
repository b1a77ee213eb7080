-- What each number shows once large objects stand at their own places.
use Rattle.std.specs.Prelude.{◌≡◌, ℕ, ◌<◌, List, Option, Some, None, slice_index, slice_index_or, if◌then◌else◌}
use Rattle.std.specs.Option.{option_map}
use Rattle.model.specs.Reached.{has}
use Rattle.layout.specs.declared.place.Place.{Place}
use Rattle.layout.specs.Place.{place_word}
use Rattle.steps.specs.HeapValue.{HeapValue}
use Rattle.steps.specs.CollectionValue.{CollectionValue, young_names}

-- the word of the place that a number shows
abbrev pub shown_in : List (Option Place) → ℕ → Option ℕ
shown_in places number = option_map place_word (slice_index_or places number None)

-- what a name shows: itself, where it is one of these large objects, or else what was shown before
abbrev pub shown_of : List ℕ → ℕ → Option ℕ → Option ℕ
shown_of large name before = if has large name then Some name else before

-- each number shows in the new places what its name does, and the old places what was shown before
abbrev pub AreShown : HeapValue → CollectionValue → List ℕ → List (Option Place) → List (Option Place) → Type 0
AreShown heap c large old new = (number : ℕ) → number < c.cells → shown_in new number ≡ shown_of large (slice_index (young_names heap.graph c.generation) number) (shown_in old number)
