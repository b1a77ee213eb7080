-- The word of a pointer in four bytes.
use Rattle.std.specs.Prelude.{ℕ, ◌/◌, ◌%◌, nat_lt, if◌then◌else◌}
use Rattle.layout.specs.Place.{large_word}

-- the word of which it is the short one. That of a small object, and 0, are the same in four bytes, with an offset below 512 in the
-- lower half; a large object's has 32768 there, and its number above
abbrev pub long_word : ℕ → ℕ
long_word word = if nat_lt (word % 65536) 32768 then word else large_word (word / 65536)
