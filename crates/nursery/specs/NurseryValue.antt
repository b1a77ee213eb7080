-- What contracts see of a nursery, and of the blocks that it fills.
use Rattle.std.specs.Prelude.{◌≡◌, ℕ, ◌+◌, ◌-◌, ◌/◌, ◌<◌, ◌≤◌, List, [], Option, Some, None, nat_le, nat_lt, if◌then◌else◌, slice_set, refl}
use Rattle.std.specs.Coded.{Coded, code_by, coded×, coded_ℕ}
use Rattle.model.specs.Room.{Room, room_after}
use Rattle.layout.specs.Place.{small_word}
use Rattle.block_pool.specs.BlockValue.{BlockValue, used_of, new_object}
use Rattle.nursery.specs.Table.{slot_at, slot_words, with_more}

-- the number of its first block, how many there are, and which of them is filled now
pub record NurseryValue : Type 0 where
  pub first : ℕ
  pub blocks : ℕ
  pub current : ℕ

abbrev pub nursery_code : Coded NurseryValue
nursery_code =
    code_by (ℕ × (ℕ × ℕ)) (coded× coded_ℕ (coded× coded_ℕ coded_ℕ))
    (λ n. (n.first, (n.blocks, n.current))) (λ p. record { first = p.0; blocks = p.1.0; current = p.1.1 }) (λ _. refl)

-- blocks left, and words used in the current one
abbrev pub nursery_room : NurseryValue → List (Option BlockValue) → Room
nursery_room n table = record { left = n.blocks - 1 - n.current; used = slot_words (slot_at table (n.first + n.current)) }

-- its blocks are there, each of so many words, and those after the current one are empty
pub record IsNursery (words : ℕ) (n : NurseryValue) (table : List (Option BlockValue)) : Type 0 where
  pub current : n.current < n.blocks
  pub there : (k : ℕ) → k < n.blocks → (block : BlockValue) × (slot_at table (n.first + k) ≡ Some block)
  pub each : (k : ℕ) (block : BlockValue) → k < n.blocks → slot_at table (n.first + k) ≡ Some block → (block.words ≡ words) × (used_of block ≤ words)
  pub later : (k : ℕ) (block : BlockValue) → n.current < k → k < n.blocks → slot_at table (n.first + k) ≡ Some block → block.objects ≡ []

-- an object of so many words takes at most a quarter of one of its blocks
pub record IsSmallIn (n : NurseryValue) (table : List (Option BlockValue)) (size : ℕ) : Type 0 where
  pub words : ℕ
  pub sound : IsNursery words n table
  pub small : size ≤ words / 4

-- where an object of so many words goes: to the current block of so many, where it fits there, else to the next
abbrev pub block_after : (words count current used size : ℕ) → Option ℕ
block_after words count current used size =
    if nat_le (used + size) words then Some current else (if nat_lt (current + 1) count then Some (current + 1) else None)

-- a new object stands at the end of one of its blocks, as the rule of rooms has it
pub record Pushes (words : ℕ) (old : NurseryValue) (table : List (Option BlockValue)) (p q place : ℕ) (new : NurseryValue) (table' : List (Option BlockValue)) : Type 0 where
  pub number : ℕ
  pub block : BlockValue
  pub from : old.first ≤ number
  pub below : number < old.first + old.blocks
  pub there : slot_at table number ≡ Some block
  pub fits : used_of block + (1 + p + q) ≤ words
  pub place_is : place ≡ small_word number (used_of block)
  pub table_is : table' ≡ slice_set table number (Some (with_more block (new_object p q)))
  pub nursery_is : new ≡ record old { current = number - old.first }
  pub sound : IsNursery words new table'
  pub room : room_after words (nursery_room old table) (1 + p + q) ≡ Some (nursery_room new table')
