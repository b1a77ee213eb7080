-- The objects of a block, by place.
use Rattle.std.specs.Prelude.{ℕ, ◌+◌, List, [], ◌∷◌, map, flat_map}
use Rattle.model.specs.Graph.{Object}
use Rattle.layout.specs.Object.{Raw, raw_size}
use Rattle.layout.specs.Place.{small_word}
use Rattle.block_pool.specs.BlockValue.{BlockValue}
use Rattle.steps.specs.Words.{target_of_word}

-- an object with these words, at a generation and step
abbrev pub object_of : ℕ → ℕ → Raw → Object
object_of generation step raw = record { pointers = map target_of_word raw.pointers; plain = raw.plain; generation = generation; step = step }

-- one after the other, from a word on
abbrev pub objects_from : ℕ → ℕ → ℕ → List Raw → List (ℕ × Object)
objects_from word generation step [] = []
objects_from word generation step (raw ∷ raws) = (word, object_of generation step raw) ∷ objects_from (word + raw_size raw) generation step raws

abbrev pub block_objects : ℕ → BlockValue → List (ℕ × Object)
block_objects number block = objects_from (small_word number 0) block.generation block.step block.objects

-- the objects of the blocks, by place
abbrev pub copies_of : List BlockValue → List (ℕ × Object)
copies_of blocks = flat_map (λ b. block_objects b.number b) blocks
