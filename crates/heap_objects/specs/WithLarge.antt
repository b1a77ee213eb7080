-- Large objects beside those that stand in blocks.
use Rattle.std.specs.Prelude.{ℕ, ◌+◌, List, [], ◌∷◌, ◌++◌, Option, Some, None}
use Rattle.std.specs.Ordering.{nat_cmp}
use Rattle.std.specs.FinMap.{FinMap, entries, from_entries}
use Rattle.model.specs.Graph.{Object}
use Rattle.layout.specs.Place.{large_word}
use Rattle.steps.specs.BlockObjects.{object_of}
use Rattle.large_objects.specs.LargeValue.{LargeObject}

abbrev pub large_object : LargeObject → Object
large_object large = object_of large.generation large.step large.raw

-- the large objects by place, where the first has this number
abbrev pub large_entries : ℕ → List (Option LargeObject) → List (ℕ × Object)
large_entries number [] = []
large_entries number (None ∷ slots) = large_entries (number + 1) slots
large_entries number (Some large ∷ slots) = (large_word number, large_object large) ∷ large_entries (number + 1) slots

-- the objects by place, and after them the large ones
abbrev pub with_large : FinMap nat_cmp Object → List (Option LargeObject) → FinMap nat_cmp Object
with_large objects slots = from_entries (entries objects ++ large_entries 0 slots)
