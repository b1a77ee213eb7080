-- A heap as its objects and roots show it.
use Rattle.std.proofs.Common.{◌≡◌, ℕ, ◌-◌, cond, List, [], length, map, replicate, sum_by, refl, ap}
use Rattle.std.specs.Prelude.{filter}
use Rattle.std.specs.Ordering.{nat_cmp}
use Rattle.std.specs.FinMap.{FinMap, empty, get, values}
use Rattle.model.specs.Config.{Config}
use Rattle.model.specs.Graph.{Object, size_of, is_large}
use Rattle.model.specs.Census.{StepCount, census_of, points_younger, step_count}
use Rattle.model.specs.Destination.{all_steps, numbers_from}
use Rattle.model.specs.Slots.{slots_from}
use Rattle.model.specs.Store.{full_rooms}
use Rattle.steps.specs.HeapValue.{HeapValue, empty_heap, nursery_count}
use Rattle.heap.specs.HeapView.{heap_with}
use Rattle.heap.specs.Roots.{roots_map}
use Rattle.heap_objects.specs.Objects.{empty_objects}

empty_roots : roots_map [] ≡ empty
unfolding slots_from
empty_roots = refl

-- no object and no root make an empty heap
pub empty_view : (config : Config) → heap_with (empty_objects config) [] (replicate config.shape.generations []) ≡ empty_heap config
empty_view config =
    ap (λ r. let h : HeapValue = record { config = config; graph = record { objects = empty; roots = r }; rooms = full_rooms config; free = numbers_from (nursery_count config) (config.blocks - nursery_count config); large_blocks = empty; remembered = replicate config.shape.generations [] } in h) empty_roots

-- the census is what was counted
pub census_is : (config : Config) (objects : FinMap nat_cmp Object) (roots remembered count words : ℕ) (steps : List StepCount) → steps ≡ map (step_count config.block_words (values objects)) (all_steps config.shape)
    → count ≡ length (filter (is_large config.block_words) (values objects)) → words ≡ sum_by size_of (filter (is_large config.block_words) (values objects))
    → remembered ≡ sum_by (λ x. cond (points_younger (get objects) x) 1 0) (values objects)
    → census_of config (get objects) (values objects) roots ≡ record { steps = steps; large_objects = count; large_words = words; roots = roots; remembered = remembered }
census_is config objects roots remembered count words steps steps_are count_is words_are remembered_are = rw (steps_are, count_is, words_are, remembered_are) refl
