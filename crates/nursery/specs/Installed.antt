-- The blocks that a collection puts into a heap.
use Rattle.std.specs.Prelude.{ℕ, Bool, ◌&&◌, List, [], ◌∷◌, Option, Some, None, nat_eq, nat_lt, length, if◌then◌else◌}
use Rattle.block_pool.specs.BlockValue.{BlockValue}

-- the block has this number and some object
abbrev pub is_installed_at : ℕ → BlockValue → Bool
is_installed_at number block = nat_eq block.number number && nat_lt 0 (length block.objects)

-- the first of the blocks with this number that has an object
abbrev pub installed : List BlockValue → ℕ → Option BlockValue
installed [] number = None
installed (block ∷ blocks) number = if is_installed_at number block then Some block else installed blocks number
