-- Words as the graph sees them.
use Rattle.std.specs.Prelude.{◌≡◌, ℕ, Option, Some, None, nat_lt, if◌then◌else◌, map}
use Rattle.model.specs.Graph.{Object}
use Rattle.layout.specs.Object.{Raw}
use Rattle.block_pool.specs.BlockValue.{BlockValue, BeginsAt}

-- a pointer's word, which is 0 for nil, as what it leads to
abbrev pub target_of_word : ℕ → Option ℕ
target_of_word word = if nat_lt 0 word then Some word else None

-- these are the words of an object of the graph
pub record IsShownAs (object : Object) (raw : Raw) : Type 0 where
  pub pointers : map target_of_word raw.pointers ≡ object.pointers
  pub plain : raw.plain ≡ object.plain

-- the words of the object stand in that block, from that offset on
pub record LiesIn (object : Object) (offset : ℕ) (block : BlockValue) : Type 0 where
  pub raw : Raw
  pub begins : BeginsAt block offset raw
  pub shown : IsShownAs object raw
