-- One pool for all large objects.
use Rattle.std.specs.Prelude.{◌≡◌, ◌≢◌, ℕ, ◌<◌, true, false, List, [], length, nat_eq, Option, Some, None}
use Rattle.std.specs.List.{IsDistinct}
use Rattle.model.specs.Reached.{has}
use Rattle.block_pool.specs.PoolValue.{PoolValue}
use Rattle.large_objects.specs.LargeValue.{LargeObject, LargeValue, large_at, InUse}

abbrev pub blocks_of : Option LargeObject → List ℕ
blocks_of None = []
blocks_of (Some object) = object.blocks

-- the blocks of the object with that number, and none where there is no object
abbrev pub blocks_at : LargeValue → ℕ → List ℕ
blocks_at large number = blocks_of (large_at large number)

-- each object has blocks of its own, at least one: they are the pool's, none of them is free, none is an object's twice, and
-- none is two objects'
pub record ArePoolBlocks (large : LargeValue) (pool : PoolValue) : Type 0 where
  pub some : (number : ℕ) → InUse large number → 0 < length (blocks_at large number)
  pub in_limit : (number block : ℕ) → has (blocks_at large number) block ≡ true → block < pool.limit
  pub taken : (number block : ℕ) → has (blocks_at large number) block ≡ true → has pool.free block ≡ false
  pub once : (number : ℕ) → IsDistinct nat_eq (blocks_at large number)
  pub apart : (number other block : ℕ) → number ≢ other → has (blocks_at large number) block ≡ true → has (blocks_at large other) block ≡ false
