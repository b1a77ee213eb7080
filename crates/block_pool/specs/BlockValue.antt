-- A block as its objects, in the order in which they were put in.
use Rattle.std.specs.Prelude.{◌≡◌, ℕ, ◌-◌, ◌<◌, List, [], Some, None, length, take, replicate, slice_get, slice_set, Option, refl}
use Rattle.std.specs.List.{sum_by}
use Rattle.std.specs.Coded.{Coded, code_by, coded×, coded_list, coded_option, coded_ℕ}
use Rattle.layout.specs.Object.{Raw, raw_code, raw_size}

-- a block as contracts see it
pub record BlockValue : Type 0 where
  -- the block's number, the generation and the step that it belongs to
  pub number : ℕ
  pub generation : ℕ
  pub step : ℕ
  -- how many words the block has
  pub words : ℕ
  pub objects : List Raw
  -- how many objects, from the first on, are scanned
  pub front : ℕ
  -- the exporter, and the position among its exports, once the block was exported
  pub sent : Option (ℕ × ℕ)
  -- the words of the places that the first objects were copied from, where that was noted
  pub origins : List ℕ

abbrev pub block_code : Coded BlockValue
block_code =
    code_by
    ((ℕ × ℕ) × ((ℕ × ℕ) × (List Raw × (ℕ × (Option (ℕ × ℕ) × List ℕ)))))
    (coded× (coded× coded_ℕ coded_ℕ) (coded× (coded× coded_ℕ coded_ℕ) (coded× (coded_list raw_code) (coded× coded_ℕ (coded× (coded_option (coded× coded_ℕ coded_ℕ)) (coded_list coded_ℕ))))))
    (λ b. ((b.number, b.generation), ((b.step, b.words), (b.objects, (b.front, (b.sent, b.origins))))))
    (λ p. record { number = p.0.0; generation = p.0.1; step = p.1.0.0; words = p.1.0.1; objects = p.1.1.0; front = p.1.1.1.0; sent = p.1.1.1.1.0; origins = p.1.1.1.1.1 })
    (λ _. refl)

-- a block of so many words that was just made
abbrev pub empty_block : ℕ → BlockValue
empty_block words = record { number = 0; generation = 0; step = 0; words = words; objects = []; front = 0; sent = None; origins = [] }

-- how many words objects take
abbrev pub words_of : List Raw → ℕ
words_of objects = sum_by raw_size objects

-- how many words of the block its objects take
abbrev pub used_of : BlockValue → ℕ
used_of block = words_of block.objects

-- where the object with that ordinal begins: after those before it
abbrev pub offset_of : List Raw → ℕ → ℕ
offset_of objects k = words_of (take k objects)

-- the object with these words begins at that offset of the block
pub record BeginsAt (block : BlockValue) (offset : ℕ) (raw : Raw) : Type 0 where
  pub ordinal : ℕ
  pub within : ordinal < length block.objects
  pub begins : offset_of block.objects ordinal ≡ offset
  pub there : slice_get block.objects ordinal ≡ Some raw

-- the objects without the last
abbrev pub without_last : List Raw → List Raw
without_last objects = take (length objects - 1) objects

-- an object with nil pointers and zero words
abbrev pub new_object : ℕ → ℕ → Raw
new_object p q = record { pointers = replicate p 0; plain = replicate q 0 }

-- the object with the word of pointer i changed
abbrev pub with_pointer_word : Raw → ℕ → ℕ → Raw
with_pointer_word raw i word = record raw { pointers = slice_set raw.pointers i word }

-- the object with plain word i changed
abbrev pub with_plain_word : Raw → ℕ → ℕ → Raw
with_plain_word raw i word = record raw { plain = slice_set raw.plain i word }
