-- Large objects after a collection of the generations 0 to g. No public clause cites this module.
use Rattle.std.specs.Prelude.{◌≡◌, ℕ, ◌<◌, ◌≤◌, Bool, List, length, Option, Some, None, slice_index, slice_index_or, nat_lt, if◌then◌else◌}
use Rattle.model.specs.Destination.{Shape, dest}
use Rattle.large_objects.specs.LargeValue.{LargeObject}

abbrev pub at_dest : Shape → LargeObject → LargeObject
at_dest shape o = record o { generation = (dest shape (o.generation, o.step)).0; step = (dest shape (o.generation, o.step)).1 }

-- an older one stays as it was, one that is kept goes to its destination, and the others are gone
abbrev pub renewed : Shape → ℕ → Bool → LargeObject → Option LargeObject
renewed shape g kept o = if nat_lt g o.generation then Some o else (if kept then Some (at_dest shape o) else None)

-- each one of generation at most g has a number, and that is below the end
abbrev pub CoversNumbers : ℕ → List (Option LargeObject) → List ℕ → ℕ → Type 0
CoversNumbers g slots numbers end = (n : ℕ) (o : LargeObject) → slice_index_or slots n None ≡ Some o → o.generation ≤ g → (n < length numbers) × (slice_index numbers n < end)
