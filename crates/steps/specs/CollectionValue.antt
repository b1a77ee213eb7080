-- What contracts see of a collection that was opened.
use Rattle.std.specs.Prelude.{◌≡◌, ℕ, ◌<◌, ◌≤◌, List, ◌++◌, map, filter, length, slice_index, count_by, nat_lt}
use Rattle.std.specs.FinMap.{entries, keys}
use Rattle.model.specs.Graph.{Graph}
use Rattle.model.specs.Live.{IsYoung}
use Rattle.model.specs.OldSlots.{Slot, old_slots, is_young_name}
use Rattle.layout.specs.Place.{small_word, large_word}
use Rattle.steps.specs.HeapValue.{HeapValue}
use Rattle.steps.specs.Numbering.{NumberingValue}

-- a root with what it leads to, or a pointer of an older object
pub data SlotValue : Type 0 where
  root_slot : (root target : ℕ) → SlotValue
  field_slot : (holder field target : ℕ) → SlotValue

abbrev pub target_of_slot : SlotValue → ℕ
target_of_slot (root_slot root target) = target
target_of_slot (field_slot holder field target) = target

-- the generations 0 to this one; the slots; the free blocks; how the objects of the generations collected are numbered,
-- and how many there are
pub record CollectionValue : Type 0 where
  pub generation : ℕ
  pub slots : List SlotValue
  pub free : List ℕ
  pub numbering : NumberingValue
  pub cells : ℕ

abbrev pub field_slot_of : Slot → SlotValue
field_slot_of slot = field_slot slot.holder slot.field slot.target

-- the roots by rising number, and then the old slots
abbrev pub slots_of : HeapValue → ℕ → List SlotValue
slots_of heap g =
    map (λ e. root_slot e.0 e.1) (entries heap.graph.roots)
    ++ map field_slot_of (old_slots heap.graph heap.config.shape.generations g)

-- the objects of generation at most g by rising place: an object's number is where it stands in this list
abbrev pub young_names : Graph → ℕ → List ℕ
young_names graph g = filter (is_young_name graph g) (keys graph.objects)

-- how many of the names lie below a word
abbrev pub rank_below : ℕ → List ℕ → ℕ
rank_below word names = count_by (λ name. nat_lt name word) names

-- how many objects of generation at most g stand before each block, and before each large object
pub record IsNumbering (graph : Graph) (g : ℕ) (numbering : NumberingValue) : Type 0 where
  pub few : length numbering.blocks ≤ 65535
  pub blocks : (block : ℕ) → block < length numbering.blocks → slice_index numbering.blocks block ≡ rank_below (small_word block 0) (young_names graph g)
  pub covers : (block offset : ℕ) → block < 65535 → offset < 65536 → IsYoung graph g (small_word block offset) → block < length numbering.blocks
  pub large : (number : ℕ) → number < length numbering.large → slice_index numbering.large number ≡ rank_below (large_word number) (young_names graph g)
  pub covers_large : (number : ℕ) → IsYoung graph g (large_word number) → number < length numbering.large

-- the collection of the generations 0 to g was opened on this heap as it is
pub record IsOpened (heap : HeapValue) (g : ℕ) (collection : CollectionValue) : Type 0 where
  pub generation : collection.generation ≡ g
  pub in_range : g < heap.config.shape.generations
  pub slots : collection.slots ≡ slots_of heap g
  pub free : collection.free ≡ heap.free
  pub numbering : IsNumbering heap.graph g collection.numbering
  pub cells : collection.cells ≡ length (young_names heap.graph g)
