-- The blocks of a sweep, and how much of one is left.
use Rattle.std.specs.Prelude.{ℕ, ◌+◌, ◌-◌, Bool, true, false, List, [], ◌∷◌, Option, Some, length, drop, slice_set, sum_by}
use Rattle.block_pool.specs.BlockValue.{BlockValue}
use Rattle.workers.specs.Block.{Copy}
use Rattle.workers.specs.Worker.{Worker, Hand, Nothing, Open, Holding, HoldingLarge}

-- the blocks by destination, with the one that is copied into in its place
abbrev pub with_block : List (Option BlockValue) → ℕ → BlockValue → List (Option BlockValue)
with_block slots d block = slice_set slots d (Some block)

-- a block is in hand that was retired or taken
abbrev pub is_holding : Hand → Bool
is_holding Nothing = false
is_holding (Open d) = false
is_holding (Holding block) = true
is_holding (HoldingLarge name) = false

-- the slots of a copy, and its scan
abbrev pub steps_of : Copy → ℕ
steps_of copy = 1 + length copy.pointers

-- how many slots and scans are left of these copies, where so many slots of the first are finished
abbrev pub left_from : List Copy → ℕ → ℕ
left_from [] i = 0
left_from (copy ∷ copies) i = 1 + (length copy.pointers - i) + sum_by steps_of copies

-- how many are left of what is in hand, if that is a block which was retired or taken
abbrev pub left_in : Hand → ℕ → ℕ
left_in Nothing i = 0
left_in (Open d) i = 0
left_in (Holding block) i = left_from (drop block.front block.copies) i
left_in (HoldingLarge name) i = 0

abbrev pub left_in_hand : Worker → ℕ
left_in_hand worker = left_in worker.hand worker.fields
