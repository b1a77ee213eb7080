-- For each generation the words of the places in its set, in the order in which they were noted.
use Rattle.std.specs.Prelude.{ℕ, List, [], ◌∷◌, ◌++◌, if◌then◌else◌, slice_set}
use Rattle.std.specs.List.{slice_index_or}
use Rattle.model.specs.Reached.{has}

-- the members of a generation's set, and none past the last generation
abbrev pub members_of : List (List ℕ) → ℕ → List ℕ
members_of sets generation = slice_index_or sets generation []

-- with one member more, where it is none yet
abbrev pub with_member : List ℕ → ℕ → List ℕ
with_member members name = if has members name then members else members ++ name ∷ []

-- the sets with one member more in a generation, where it is none yet
abbrev pub noted : List (List ℕ) → ℕ → ℕ → List (List ℕ)
noted sets generation name = if has (members_of sets generation) name then sets else slice_set sets generation (members_of sets generation ++ name ∷ [])
