-- Flags as the bits of words, and what holds of the fields of a set.
use Rattle.std.specs.Prelude.{◌≡◌, ℕ, zero, suc, ◌*◌, ◌/◌, ◌%◌, ◌<◌, ◌≤◌, Bool, false, nat_eq, List, [], ◌∷◌, ◌++◌, length, take, get_or}
use Rattle.std.specs.Int.{div_ceil}
use Rattle.block_pool.specs.Members.{set_from}
use Rattle.block_pool.specs.declared.number_sets.ranking.TheConstants.{WORDS_IN_GROUP}

-- the lowest so many bits of a number as flags, the lowest first
unfoldable pub bits_of : ℕ → ℕ → List Bool
bits_of zero n = []
bits_of (suc k) n = nat_eq (n % 2) 1 ∷ bits_of k (n / 2)

-- 64 flags in each word
unfoldable pub flags_of : List ℕ → List Bool
flags_of [] = []
flags_of (word ∷ words) = bits_of 64 word ++ flags_of words

-- the numbers whose flags are set
abbrev pub members_of : List ℕ → List ℕ
members_of words = set_from 0 (flags_of words)

-- how many numbers stand in the words before this one
abbrev pub rank : List ℕ → ℕ → ℕ
rank words place = length (members_of (take place words))

-- no flag is set below a place
abbrev pub NoneSetBelow : List Bool → ℕ → Type 0
NoneSetBelow flags place = (k : ℕ) → k < place → get_or flags k false ≡ false

-- no flag is set from a place on
abbrev pub NoneSetFrom : List Bool → ℕ → Type 0
NoneSetFrom flags place = (k : ℕ) → place ≤ k → get_or flags k false ≡ false

-- no flag is set from one place on and below another
abbrev pub NoneSetBetween : List Bool → ℕ → ℕ → Type 0
NoneSetBetween flags from place = (k : ℕ) → from ≤ k → k < place → get_or flags k false ≡ false

-- what holds of the fields of a set: no word before the lowest has a member
pub record IsNumberSet (words : List ℕ) (limit count lowest : ℕ) : Type 0 where
  pub count_is : count ≡ length (members_of words)
  pub none_below : NoneSetBelow (flags_of words) (64 * lowest)
  pub none_past : NoneSetFrom (flags_of words) limit
  pub lowest_in_words : lowest ≤ length words
  pub limit_in_words : limit ≤ 64 * length words
  pub limit_in_range : limit ≤ 65535
  pub words_in_range : length words ≤ 1024

-- the counts of the members before each group of words, the last of which may have fewer words
pub record AreRanks (words before : List ℕ) : Type 0 where
  pub as_many : length before ≡ div_ceil (length words) WORDS_IN_GROUP
  pub each : (group : ℕ) → group < length before → get_or before group 0 ≡ rank words (WORDS_IN_GROUP * group)

-- what holds of the fields of a ranked set
pub record IsRankedSet (words before : List ℕ) (count : ℕ) : Type 0 where
  pub ranks : AreRanks words before
  pub count_is : count ≡ length (members_of words)
  pub count_in_range : count ≤ 65535
  pub words_in_range : length words ≤ 1024
