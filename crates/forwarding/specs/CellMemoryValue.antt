-- What contracts see of the memory that cells leave.
use Rattle.std.specs.Prelude.{ℕ, List, ◌+◌, ◌/◌}

-- words that are all 0, and for how many there is room
pub record ZerosValue : Type 0 where
  pub words : List ℕ
  pub room : ℕ

-- for how many short words there is room, and for how many words of eight bytes. The memory is of one kind, so one of the two is 0
pub record CellMemoryValue : Type 0 where
  pub short : ℕ
  pub zeros : ℕ

-- the same in words of eight bytes
abbrev pub long_room : CellMemoryValue → ℕ
long_room memory = memory.short / 2 + memory.zeros
