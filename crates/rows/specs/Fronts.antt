-- Fronts of a text.
use Rattle.std.specs.Prelude.{ℕ, List}
use Rattle.std.specs.Io.{StartsWith, IsEmptyOrEndsWith}

-- the text begins with `front`, which ends where a line of it ends
abbrev pub IsFrontInLines : List ℕ → List ℕ → Type 0
IsFrontInLines front text = StartsWith text front × IsEmptyOrEndsWith front 10
