-- The word of a place, and of a pointer that may be nil.
use Rattle.std.specs.Prelude.{◌≡◌, ℕ, ◌+◌, ◌*◌, Option, Some, None}
use Rattle.layout.specs.declared.place.Place.{Place}
use Rattle.layout.specs.declared.place.Place.TheVariants.{Small, Large}

-- the word of the small object at that offset of that block
abbrev pub small_word : ℕ → ℕ → ℕ
small_word block offset = (block + 1) * 65536 + offset

-- the word of the large object with that number: bit 63, and the number
abbrev pub large_word : ℕ → ℕ
large_word number = 9223372036854775808 + number

abbrev pub place_word : Place → ℕ
place_word (Small at) = small_word at.block at.offset
place_word (Large of) = large_word of.number

-- nil has the word 0
abbrev pub pointer_word : Option Place → ℕ
pointer_word None = 0
pointer_word (Some place) = place_word place

-- the word is a pointer's
abbrev pub IsPointer : ℕ → Type 0
IsPointer word = (pointer : Option Place) × (pointer_word pointer ≡ word)

-- the place is a small object's, at that offset of that block
abbrev pub IsSmallAt : Place → ℕ → ℕ → Type 0
IsSmallAt (Small at) block offset = (at.block ≡ block) × (at.offset ≡ offset)
IsSmallAt (Large of) block offset = ⊥

-- the place is a large object's, with that number
abbrev pub IsLargeAt : Place → ℕ → Type 0
IsLargeAt (Small at) number = ⊥
IsLargeAt (Large of) number = of.number ≡ number
