-- Large objects by number: how many are young, and how large they are. No public clause cites this module.
use Rattle.std.specs.Prelude.{◌≡◌, ℕ, ◌<◌, ◌≤◌, Bool, List, length, take, count_by, Option, Some, None, slice_index_or, nat_le, false}
use Rattle.std.specs.Option.{option_map_or}
use Rattle.large_objects.specs.LargeValue.{LargeObject, LargeValue, large_at}

-- there is a large object, of generation at most g
abbrev pub is_young_slot : ℕ → Option LargeObject → Bool
is_young_slot g slot = option_map_or (λ o. nat_le o.generation g) slot false

-- how many of generation at most g have a number below n
abbrev pub young_before : ℕ → List (Option LargeObject) → ℕ → ℕ
young_before g slots n = count_by (is_young_slot g) (take n slots)

-- each of generation at most g has a number below the end
abbrev pub CoversYoungLarge : ℕ → List (Option LargeObject) → ℕ → Type 0
CoversYoungLarge g slots end = (n : ℕ) (o : LargeObject) → slice_index_or slots n None ≡ Some o → o.generation ≤ g → n < end

-- each large object has at most so many pointers and plain words
abbrev pub AreInRange : LargeValue → Type 0
AreInRange large = (n : ℕ) (o : LargeObject) → large_at large n ≡ Some o → (length o.raw.pointers ≤ 100000) × (length o.raw.plain ≤ 100000)
