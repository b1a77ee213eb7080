-- What holds of small and large objects side by side. No public clause cites this module.
use Rattle.std.specs.Prelude.{◌≡◌, ℕ, ◌<◌, ◌≤◌, true, false, Some, length, IsTrue}
use Rattle.model.specs.Config.{Config}
use Rattle.model.specs.Destination.{IsStep}
use Rattle.model.specs.Graph.{is_large, size_of}
use Rattle.model.specs.Reached.{has}
use Rattle.steps.specs.HeapValue.{nursery_count}
use Rattle.large_objects.specs.LargeValue.{LargeObject, LargeValue, InUse, large_at, block_count}
use Rattle.large_objects.specs.PoolBlocks.{ArePoolBlocks, blocks_at}
use Rattle.heap_objects.specs.WithLarge.{large_object}
use Rattle.heap_objects.specs.Space.{SpaceValue, IsSpace, pool_in}
use Rattle.heap_objects.specs.HeapSpaceCollecting.{HoldsNone}

-- a large object of a heap of these sizes
pub record IsLargeObject (config : Config) (o : LargeObject) : Type 0 where
  pub large : IsTrue (is_large config.block_words (large_object o))
  pub step : IsStep config.shape (o.generation, o.step)
  pub pointers : length o.raw.pointers ≤ 100000
  pub plain : length o.raw.plain ≤ 100000
  pub count : length o.blocks ≡ block_count (size_of (large_object o)) config.block_words

-- what holds of the blocks of small objects; each large object has blocks of the pool in which no small one stands; each
-- other block of the pool in which none stands is free
pub record AreApart (space : SpaceValue) (large : LargeValue) : Type 0 where
  pub small : IsSpace space
  pub numbers : (n : ℕ) → InUse large n → n < 65535
  pub pool : ArePoolBlocks large (pool_in space)
  pub each : (n : ℕ) (o : LargeObject) → large_at large n ≡ Some o → IsLargeObject space.config o
  pub apart : (n block : ℕ) → has (blocks_at large n) block ≡ true → (nursery_count space.config ≤ block) × HoldsNone space block
  pub all_free : (block : ℕ) → nursery_count space.config ≤ block → block < space.config.blocks → HoldsNone space block → ((n : ℕ) → has (blocks_at large n) block ≡ false) → has space.free block ≡ true
