-- The header word of an object, and its size.
use Rattle.std.specs.Prelude.{ℕ, ◌+◌, ◌*◌}

-- the pointers count from bit 0, the plain words from bit 24, and the ordinal from bit 48
abbrev pub header_word : ℕ → ℕ → ℕ → ℕ
header_word p q ordinal = p + q * 16777216 + ordinal * 281474976710656

-- the words of an object with that many pointers and plain words, its header among them
abbrev pub size_of : ℕ → ℕ → ℕ
size_of p q = 1 + p + q
