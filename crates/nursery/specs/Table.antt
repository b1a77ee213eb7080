-- The objects of the blocks of a heap, by place.
use Rattle.std.specs.Prelude.{◌≡◌, ℕ, ◌+◌, ◌/◌, ◌≤◌, List, [], ◌∷◌, ◌++◌, length, map, Option, Some, None, take, sum_by, slice_index_or, nat_eq, nat_le, ◌&&◌, if◌then◌else◌}
use Rattle.std.specs.Ordering.{nat_cmp}
use Rattle.std.specs.FinMap.{FinMap, from_entries}
use Rattle.model.specs.Graph.{Object}
use Rattle.model.specs.Config.{Config}
use Rattle.model.specs.Destination.{IsStep}
use Rattle.layout.specs.Object.{Raw, raw_size}
use Rattle.block_pool.specs.BlockValue.{BlockValue, used_of}
use Rattle.steps.specs.BlockObjects.{block_objects}

-- the block with a number, where there is one
abbrev pub slot_at : {X : Type 0} → List (Option X) → ℕ → Option X
slot_at table number = slice_index_or table number None

abbrev pub slot_objects : ℕ → Option BlockValue → List (ℕ × Object)
slot_objects number None = []
slot_objects number (Some block) = block_objects number block

-- those of the blocks from a number on
abbrev pub table_objects : ℕ → List (Option BlockValue) → List (ℕ × Object)
table_objects number [] = []
table_objects number (slot ∷ table) = slot_objects number slot ++ table_objects (number + 1) table

-- objects of at most a quarter of a block
abbrev pub AreSmall : ℕ → List Raw → Type 0
AreSmall block_words [] = Unit {0}
AreSmall block_words (raw ∷ raws) = (raw_size raw ≤ block_words / 4) × AreSmall block_words raws

-- a block of the heap with that number
pub record IsHeapBlock (config : Config) (number : ℕ) (block : BlockValue) : Type 0 where
  pub number_is : block.number ≡ number
  pub words : block.words ≡ config.block_words
  pub step : IsStep config.shape (block.generation, block.step)
  pub fits : used_of block ≤ config.block_words
  pub objects : AreSmall config.block_words block.objects

-- each block is one of the heap's, where the first has this number
abbrev pub AreHeapBlocks : Config → ℕ → List (Option BlockValue) → Type 0
AreHeapBlocks config number table = (n : ℕ) (block : BlockValue) → slot_at table n ≡ Some block → IsHeapBlock config (number + n) block

-- the objects of the blocks by place
abbrev pub objects_map : List (Option BlockValue) → FinMap nat_cmp Object
objects_map table = from_entries (table_objects 0 table)

-- the block where its generation is at most g
abbrev pub young_slot : ℕ → Option BlockValue → Option BlockValue
young_slot g None = None
young_slot g (Some block) = if nat_le block.generation g then Some block else None

-- the blocks of the generations 0 to g
abbrev pub young_table : ℕ → List (Option BlockValue) → List (Option BlockValue)
young_table g table = map (young_slot g) table

-- the block where it is of that generation and step
abbrev pub step_slot : ℕ × ℕ → Option BlockValue → Option BlockValue
step_slot at None = None
step_slot at (Some block) = if nat_eq block.generation at.0 && nat_eq block.step at.1 then Some block else None

-- a block with one object more
abbrev pub with_more : BlockValue → Raw → BlockValue
with_more block raw = record block { objects = block.objects ++ raw ∷ [] }

abbrev pub cleared : Option BlockValue → Option BlockValue
cleared None = None
cleared (Some block) = Some (record block { objects = []; front = 0; sent = None; origins = [] })

-- how many objects a block holds, and how many words they take
abbrev pub slot_len : Option BlockValue → ℕ
slot_len None = 0
slot_len (Some block) = length block.objects

abbrev pub slot_words : Option BlockValue → ℕ
slot_words None = 0
slot_words (Some block) = used_of block

-- how many objects the blocks before the b-th hold
abbrev pub objects_before : List (Option BlockValue) → ℕ → ℕ
objects_before table b = sum_by slot_len (take b table)
