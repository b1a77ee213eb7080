-- What all workers read during a collection, and none changes.
use Rattle.std.specs.Prelude.{ℕ, ◌+◌, ◌-◌, ◌*◌, Bool, false, List, [], Option, Some, None, nat_le, slice_get, option_and_then}
use Rattle.std.specs.Option.{option_map_or}
use Rattle.model.specs.Graph.{Graph, Object, object_at, size_of, is_large}
use Rattle.model.specs.Destination.{Shape, dest}
use Rattle.workers.specs.Block.{Block, Copy, used_words}
use Rattle.layout.specs.Place.{small_word}

-- It is never a model's value, so it may hold a function
pub record Setting : Type 0 where
  pub object : ℕ → Option Object
  pub oldest_collected : ℕ
  pub shape : Shape
  pub block_words : ℕ
  pub workers : ℕ

-- that of a heap
abbrev pub setting_of : Graph → ℕ → Shape → ℕ → ℕ → Setting
setting_of graph g shape block_words workers = record { object = object_at graph; oldest_collected = g; shape = shape; block_words = block_words; workers = workers }

abbrev pub old_field : Setting → ℕ → ℕ → Option (Option ℕ)
old_field setting name i = option_and_then (λ o. slice_get o.pointers i) (setting.object name)

-- the object has a generation that is collected
abbrev pub is_collected : Setting → ℕ → Bool
is_collected setting name = option_map_or (λ o. nat_le o.generation setting.oldest_collected) (setting.object name) false

abbrev pub words_of : Setting → ℕ → ℕ
words_of setting name = option_map_or size_of (setting.object name) 0

abbrev pub is_large_name : Setting → ℕ → Bool
is_large_name setting name = option_map_or (is_large setting.block_words) (setting.object name) false

abbrev pub old_pointers : Setting → ℕ → List (Option ℕ)
old_pointers setting name = option_map_or (λ o. o.pointers) (setting.object name) []

abbrev pub old_plain : Setting → ℕ → List ℕ
old_plain setting name = option_map_or (λ o. o.plain) (setting.object name) []

-- destinations are numbered from 0 by generation, then step
abbrev pub destination_number : Shape → ℕ × ℕ → ℕ
destination_number shape at = at.0 * shape.steps + at.1 - 1

abbrev pub destination_of : Setting → ℕ → ℕ
destination_of setting name = option_map_or (λ o. destination_number setting.shape (dest setting.shape (o.generation, o.step))) (setting.object name) 0

-- the copy that is made of the object at the end of that block
abbrev pub copy_into : Setting → Block → ℕ → Copy
copy_into setting block name = record { name = name; place = small_word block.number (used_words block); pointers = old_pointers setting name; plain = old_plain setting name }

abbrev pub fits_in : Setting → ℕ → Option Block → Bool
fits_in setting name None = false
fits_in setting name (Some block) = nat_le (used_words block + words_of setting name) setting.block_words
