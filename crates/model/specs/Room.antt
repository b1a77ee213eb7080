-- The room in a mutator's nursery.
use Rattle.std.specs.Prelude.{ℕ, ◌+◌, ◌-◌, Option, Some, None, if◌then◌else◌, nat_le, nat_lt}

-- blocks left, and words used in the current one
pub record Room : Type 0 where
  pub left : ℕ
  pub used : ℕ

abbrev pub full_room : ℕ → Room
full_room blocks = record { left = blocks - 1; used = 0 }

-- at the end of the current block if it fits there, else at the start of the next
abbrev pub room_after : ℕ → Room → ℕ → Option Room
room_after block_words room size =
    if nat_le (room.used + size) block_words
    then Some (record { left = room.left; used = room.used + size })
    else (if nat_lt 0 room.left then Some (record { left = room.left - 1; used = size }) else None)
