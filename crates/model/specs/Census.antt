-- The counts that a census shows.
use Rattle.std.specs.Prelude.{ℕ, Bool, false, not, ◌&&◌, List, length, map, filter, Option, Some, None, nat_eq, nat_lt, count_by, sum_by}
use Rattle.std.specs.Option.{option_map_or}
use Rattle.std.specs.List.{list_any}
use Rattle.model.specs.Graph.{Object, size_of, is_large}
use Rattle.model.specs.Destination.{all_steps}
use Rattle.model.specs.Config.{Config}

-- the small objects of a step, and their words
pub record StepCount : Type 0 where
  pub generation : ℕ
  pub step : ℕ
  pub objects : ℕ
  pub words : ℕ

pub record Census : Type 0 where
  pub steps : List StepCount
  pub large_objects : ℕ
  pub large_words : ℕ
  pub roots : ℕ
  pub remembered : ℕ

abbrev pub is_small_at : ℕ → ℕ × ℕ → Object → Bool
is_small_at block_words at o = (nat_eq o.generation at.0 && nat_eq o.step at.1) && not (is_large block_words o)

abbrev pub step_count : ℕ → List Object → ℕ × ℕ → StepCount
step_count block_words objects at =
    record {
      generation = at.0;
      step = at.1;
      objects = length (filter (is_small_at block_words at) objects);
      words = sum_by size_of (filter (is_small_at block_words at) objects);
    }

-- the pointer leads to an object that passes the test
abbrev pub points_to : (Object → Bool) → (ℕ → Option Object) → Option ℕ → Bool
points_to test object None = false
points_to test object (Some name) = option_map_or test (object name) false

-- some pointer leads to an object of a younger generation
abbrev pub points_younger : (ℕ → Option Object) → Object → Bool
points_younger object o = list_any (points_to (λ target. nat_lt target.generation o.generation) object) o.pointers

-- of these objects, with so many roots; `object` gives the object of a name
abbrev pub census_of : Config → (ℕ → Option Object) → List Object → ℕ → Census
census_of config object objects roots =
    record {
      steps = map (step_count config.block_words objects) (all_steps config.shape);
      large_objects = length (filter (is_large config.block_words) objects);
      large_words = sum_by size_of (filter (is_large config.block_words) objects);
      roots = roots;
      remembered = count_by (points_younger object) objects;
    }
