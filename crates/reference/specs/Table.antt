-- What each name leads to, as a list of rows.
use Rattle.std.specs.Prelude.{ℕ, List, [], slice_index_or}

-- the row of a name, empty past the end
abbrev pub row : List (List ℕ) → ℕ → List ℕ
row rows name = slice_index_or rows name []
