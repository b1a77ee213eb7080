-- A list with gaps, seen as the map from its places that hold something.
use Rattle.std.specs.Prelude.{ℕ, ◌+◌, List, [], ◌∷◌, Option, Some, None}
use Rattle.std.specs.Ordering.{nat_cmp}
use Rattle.std.specs.FinMap.{FinMap, insert, empty}

unfoldable pub slots_from : {X : Type 0} → ℕ → List (Option X) → FinMap nat_cmp X
slots_from i [] = empty
slots_from i (None ∷ slots) = slots_from (i + 1) slots
slots_from i (Some x ∷ slots) = insert (slots_from (i + 1) slots) i x
