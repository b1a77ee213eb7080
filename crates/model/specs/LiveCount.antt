-- How many objects a collection keeps.
use Rattle.std.specs.Prelude.{◌≡◌, ℕ, true, List, length, nat_eq, cond, sum_by}
use Rattle.std.specs.Option.{option_map_or}
use Rattle.std.specs.List.{IsDistinct}
use Rattle.model.specs.Graph.{Graph, object_at, size_of, is_large}
use Rattle.model.specs.Live.{Live}
use Rattle.model.specs.Reached.{has}

-- the live objects, each once
pub record ListsLive (graph : Graph) (g : ℕ) (names : List ℕ) : Type 0 where
  pub distinct : IsDistinct nat_eq names
  pub only : (name : ℕ) → has names name ≡ true → Live graph g name
  pub all : (name : ℕ) → Live graph g name → has names name ≡ true

-- n is the number of live objects
pub record LiveCount (graph : Graph) (g n : ℕ) : Type 0 where
  pub names : List ℕ
  pub lists : ListsLive graph g names
  pub count : n ≡ length names

-- how many words of blocks the object of that name takes: a large one takes none
abbrev pub small_words : Graph → ℕ → ℕ → ℕ
small_words graph block_words name = option_map_or (λ o. cond (is_large block_words o) 0 (size_of o)) (object_at graph name) 0

-- x is the summed size of the small live objects
pub record LiveWords (graph : Graph) (g block_words x : ℕ) : Type 0 where
  pub names : List ℕ
  pub lists : ListsLive graph g names
  pub words : x ≡ sum_by (small_words graph block_words) names
