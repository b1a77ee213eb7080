-- The words of an answer, wherever they lie.
use Rattle.std.specs.Prelude.{ℕ, ◌≤◌, List, length, map}
use Rattle.forwarding.specs.declared.cells.forwards.Words.{Words}
use Rattle.forwarding.specs.declared.cells.forwards.Words.TheVariants.{Listed, Closed}
use Rattle.forwarding.specs.ShortWords.{long_word}

abbrev pub words_in : {A : Type 0} → Words A → List ℕ
words_in (Listed words) = map long_word words.items
words_in (Closed words zeros) = words

-- where threads shared them, there are as many zeros at least for cells to come
abbrev pub IsRoomy : {A : Type 0} → Words A → Type 0
IsRoomy (Listed words) = Unit {0}
IsRoomy (Closed words zeros) = length words ≤ zeros.room
