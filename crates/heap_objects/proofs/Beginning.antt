-- A heap with no object.
use Rattle.std.proofs.Common.{◌≡◌, ℕ, ◌-◌, ◌<◌, ◌≤◌, [], List, Option, None, is_some, sym, ap, ◌∙◌, arith}
use Rattle.std.proofs.lemmas.Bool.{true≢false}
use Rattle.std.specs.Prelude.{slice_index_or}
use Rattle.std.specs.Ordering.{nat_cmp}
use Rattle.std.specs.FinMap.{FinMap, empty, from_entries}
use Rattle.model.specs.Config.{Config}
use Rattle.model.specs.Graph.{Object}
use Rattle.model.specs.Destination.{numbers_from}
use Rattle.model.specs.Reached.{has}
use Rattle.model.specs.Store.{full_rooms}
use Rattle.model.proofs.Has.{has_numbers}
use Rattle.model.proofs.Options.{some_not_none}
use Rattle.block_pool.specs.PoolValue.{PoolValue}
use Rattle.steps.specs.HeapValue.{nursery_count}
use Rattle.large_objects.specs.LargeValue.{LargeObject, LargeValue, large_at}
use Rattle.large_objects.specs.PoolBlocks.{ArePoolBlocks, blocks_of}
use Rattle.heap_objects.proofs.WithLarge.{with_none}
use Rattle.heap_objects.specs.Space.{SpaceValue, IsSpace, empty_space, pool_in}
use Rattle.heap_objects.specs.Objects.{ObjectsValue, objects_of, empty_objects, block_entries}
use Rattle.heap_objects.specs.Inside.{AreApart}

module _ (config : Config) (space : SpaceValue) (large : LargeValue) (is : space ≡ empty_space config) (none : large.slots ≡ []) where
  none_at : (n : ℕ) → large_at large n ≡ None
  none_at n = ap (λ xs. slice_index_or xs n None) none

  pub begins_apart : nursery_count config ≤ config.blocks → IsSpace space → ((pool : PoolValue) → ArePoolBlocks large pool) → AreApart space large
  begins_apart le small pools = record {
    small = small;
    numbers = λ n in_use. absurd (true≢false (sym in_use ∙ ap is_some (none_at n)));
    pool = pools (pool_in space);
    each = λ n o at. absurd (some_not_none (sym at ∙ none_at n));
    apart = λ n block h. absurd (true≢false (sym h ∙ ap (λ s. has (blocks_of s) block) (none_at n)));
    all_free = λ block from to held unheld.
        let low : nursery_count config ≤ block = omega (arith, from, ap (λ s. nursery_count s.config) is) in
        let high : block < config.blocks = omega (arith, to, ap (λ s. s.config.blocks) is) in
        ap (λ s. has s.free block) is ∙ has_numbers (nursery_count config) (config.blocks - nursery_count config) block low (omega (arith, high, le));
  }

  pub begins_empty : objects_of space large ≡ empty_objects config
  begins_empty =
      ap (λ s. objects_of s large) is
      ∙ ap (λ (m : FinMap nat_cmp Object). let o : ObjectsValue = record { config = config; objects = m; rooms = full_rooms config; free = numbers_from (nursery_count config) (config.blocks - nursery_count config); large_blocks = from_entries (block_entries 0 large.slots) } in o) (with_none empty large.slots none_at)
      ∙ ap (λ (slots : List (Option LargeObject)). let o : ObjectsValue = record { config = config; objects = empty; rooms = full_rooms config; free = numbers_from (nursery_count config) (config.blocks - nursery_count config); large_blocks = from_entries (block_entries 0 slots) } in o) none
