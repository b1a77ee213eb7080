-- Where a new name goes among names in byte order.
use Rattle.std.specs.Prelude.{ℕ, ◌+◌, List, [], ◌∷◌, if◌then◌else◌}
use Rattle.std.specs.Ordering.{nat_cmp, is_lt}
use Rattle.std.specs.Cmp.Lexicographic.{slice_cmp}

-- the place of the first name after the text
abbrev pub place_of : List ℕ → List (List ℕ × ℕ) → ℕ
place_of text [] = 0
place_of text (e ∷ names) = if is_lt (slice_cmp nat_cmp text e.0) then 0 else place_of text names + 1
