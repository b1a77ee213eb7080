-- What holds of blocks that may take the place of what is collected.
use Rattle.std.proofs.Common.{◌≡◌, ℕ, ◌+◌, ◌<◌, ◌≤◌, Bool, true, List, [], length, max, Option, Some, None, subst, arith, ⊎_elim, ◌⊎◌, inl, inr}
use Rattle.std.specs.Prelude.{All}
use Rattle.model.specs.Config.{Config}
use Rattle.model.specs.Reached.{has}
use Rattle.block_pool.specs.BlockValue.{BlockValue}
use Rattle.block_pool.specs.PoolValue.{PoolValue}
use Rattle.nursery.specs.Areas.{HasRoom}
use Rattle.nursery.specs.Installed.{installed}
use Rattle.nursery.specs.Table.{slot_at}
use Rattle.nursery.proofs.Installed.{installed-all}
use Rattle.nursery.specs.NurseryValue.{NurseryValue}
use Rattle.heap_objects.specs.Space.{IsSoundSpace, space_of}
use Rattle.heap_objects.specs.HeapSpaceCollecting.{CanReplace}

-- a block that is put in was free before
pub free_before : (config : Config) (table : List (Option BlockValue)) (nurseries : List NurseryValue) (pool : PoolValue) (blocks : List BlockValue) → IsSoundSpace config table nurseries pool → CanReplace (space_of config table nurseries pool) blocks → (n : ℕ) (block : BlockValue) → installed blocks n ≡ Some block → slot_at table n ≡ None
free_before config table nurseries pool blocks sound can n block is =
    let found = installed-all (λ b. has pool.free b.number ≡ true) blocks n block can.were_free is in
    (sound.are_free n (subst (λ m. has pool.free m ≡ true) found.1 found.0)).2

-- there is a flag for each block that is put in
pub each_room : (areas : List (List Bool)) (blocks : List BlockValue) (end : ℕ) → HasRoom areas end → All (λ b. b.number < end) blocks → All (λ b. HasRoom areas (b.number + 1)) blocks
each_room areas blocks end room below = λ k d lt. record { each = λ h inside. omega (arith, room.each h inside, below k d lt) }

-- each block that is put in is of a generation of the heap, where it holds an object
pub each_generation : (config : Config) (table : List (Option BlockValue)) (nurseries : List NurseryValue) (pool : PoolValue) (blocks : List BlockValue) (generations : ℕ) → CanReplace (space_of config table nurseries pool) blocks → generations ≡ config.shape.generations → All (λ b. (b.objects ≡ []) ⊎ (b.generation < generations)) blocks
each_generation config table nurseries pool blocks generations can same = λ k d lt. ⊎_elim (λ e. inl e) (λ h. let of_shape = h.step.generation in inr (omega (arith, of_shape, same))) (can.sound k d lt)

-- the numbers of blocks that were free are below the number of blocks
pub free_below : (config : Config) (table : List (Option BlockValue)) (nurseries : List NurseryValue) (pool : PoolValue) (blocks : List BlockValue) → IsSoundSpace config table nurseries pool → CanReplace (space_of config table nurseries pool) blocks → All (λ b. b.number < config.blocks) blocks
free_below config table nurseries pool blocks sound can = λ k d lt. (sound.are_free _ (can.were_free k d lt)).1

pub grown_short : (config : Config) (table : List (Option BlockValue)) (nurseries : List NurseryValue) (pool : PoolValue) (end len : ℕ) → IsSoundSpace config table nurseries pool → end ≤ config.blocks → len ≤ max end (length table) → len ≤ config.blocks
grown_short config table nurseries pool end len sound le short = omega (arith, sound.short)
