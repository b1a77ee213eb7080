-- The objects that lie in a list of words.
use Rattle.std.specs.Prelude.{◌≡◌, ℕ, ◌+◌, ◌/◌, ◌%◌, ◌<◌, ◌≤◌, List, [], ◌∷◌, length, take, drop, get_or}
use Rattle.layout.specs.Object.{Raw}

-- how many pointers, how many plain words and which ordinal a header word tells
abbrev pub pointers_of : ℕ → ℕ
pointers_of header = header % 16777216

abbrev pub plain_of : ℕ → ℕ
plain_of header = header / 16777216 % 16777216

abbrev pub ordinal_of : ℕ → ℕ
ordinal_of header = header / 281474976710656

-- how many words the object at that offset takes
abbrev pub span : List ℕ → ℕ → ℕ
span words at = 1 + pointers_of (get_or words at 0) + plain_of (get_or words at 0)

-- the object at that offset: its pointers follow its header, and its plain words follow these
unfoldable pub raw_at : List ℕ → ℕ → Raw
raw_at words at =
    record {
      pointers = take (pointers_of (get_or words at 0)) (drop (at + 1) words);
      plain = take (plain_of (get_or words at 0)) (drop (at + 1 + pointers_of (get_or words at 0)) words);
    }

-- the header word there has that ordinal
abbrev pub HasOrdinal : List ℕ → ℕ → ℕ → Type 0
HasOrdinal words at ordinal = ordinal_of (get_or words at 0) ≡ ordinal

-- the objects stand one after the other from a place on to the used end, and their ordinals rise by one
abbrev pub Tiles : List ℕ → ℕ → ℕ → List ℕ → ℕ → Type 0
Tiles words ordinal at [] used = at ≡ used
Tiles words ordinal at (offset ∷ offsets) used =
    (offset ≡ at) × HasOrdinal words at ordinal × Tiles words (ordinal + 1) (at + span words at) offsets used

-- what holds of the fields of a block
pub record IsSoundBlock (words offsets : List ℕ) (len used front number : ℕ) : Type 0 where
  pub tiles : Tiles words 0 0 (take len offsets) used
  pub used_in_words : used ≤ length words
  pub as_many_offsets : length offsets ≡ length words
  pub front_in_objects : front ≤ len
  pub len_in_offsets : len ≤ length offsets
  pub number_in_range : number < 65535
  pub words_from : 16 ≤ length words
  pub words_to : length words ≤ 512

-- so many words from a place on are those from another place on
abbrev pub AreCopied : ℕ → List ℕ → ℕ → List ℕ → ℕ → Type 0
AreCopied count words at from offset = take count (drop at words) ≡ take count (drop offset from)

-- an object was written from a place on, and the words before it were kept
pub record IsWritten (old new : List ℕ) (at ordinal : ℕ) (object : Raw) : Type 0 where
  pub kept : take at new ≡ take at old
  pub ordinal_is : HasOrdinal new at ordinal
  pub object_is : raw_at new at ≡ object
  pub span_is : span new at ≡ 1 + length object.pointers + length object.plain
