-- The roots of a heap: what each number leads to.
use Rattle.std.specs.Prelude.{ℕ, List, map, Option, None, unwrap_or, slice_index_or}
use Rattle.std.specs.Option.{option_map}
use Rattle.std.specs.Ordering.{nat_cmp}
use Rattle.std.specs.FinMap.{FinMap, find}
use Rattle.model.specs.Slots.{slots_from}
use Rattle.layout.specs.declared.place.Place.{Place}
use Rattle.layout.specs.Place.{place_word}

abbrev pub words_of : List (Option Place) → List (Option ℕ)
words_of slots = map (option_map place_word) slots

abbrev pub roots_map : List (Option Place) → FinMap nat_cmp ℕ
roots_map slots = slots_from 0 (words_of slots)

-- what the root of a number leads to, where there is one
abbrev pub root_word : List (Option Place) → ℕ → Option ℕ
root_word slots n = option_map place_word (slice_index_or slots n None)

-- the word of a root where these roots have new words
abbrev pub renamed_word : List (ℕ × ℕ) → ℕ → Option ℕ → Option ℕ
renamed_word pairs n word = option_map (λ w. unwrap_or (find nat_cmp n pairs) w) word
