-- For how much there is room in what cells were laid out in.
use Rattle.std.specs.Prelude.{vec_capacity}
use Rattle.forwarding.specs.declared.cell_memory.Lists.{Lists}
use Rattle.forwarding.specs.declared.cell_memory.Lists.TheVariants.{Short, Zeros}
use Rattle.forwarding.specs.CellMemoryValue.{CellMemoryValue}

abbrev pub memory_in : {A : Type 0} → Lists A → CellMemoryValue
memory_in (Short words) = record { short = vec_capacity words; zeros = 0 }
memory_in (Zeros zeros) = record { short = 0; zeros = zeros.room }
