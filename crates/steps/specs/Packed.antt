-- The word of a place in four bytes.
use Rattle.std.specs.Prelude.{ℕ, nat_eq, if◌then◌else◌}
use Rattle.layout.specs.Place.{small_word, large_word}
use Rattle.steps.specs.declared.heap_values.packed.PackedPlace.{PackedPlace}

-- 65,535 stands for the block of a large object, and the rest is its number then
abbrev pub packed_word : PackedPlace → ℕ
packed_word place = if nat_eq place.block 65535 then large_word place.rest else small_word place.block place.rest
