-- The places where the survivors of a collection go, in the order of their numbers.
use Rattle.std.specs.Prelude.{◌≡◌, ℕ, ◌+◌, ◌-◌, ◌*◌, ◌/◌, ◌%◌, ◌<◌, ◌≤◌, Bool, ◌&&◌, List, map, filter, length, Some, nat_eq, nat_le, nat_lt, if◌then◌else◌, slice_get}
use Rattle.std.specs.List.{IsDistinct, Contains, list_any}
use Rattle.model.specs.Destination.{Shape, IsStep, oldest, dest, dest_count, all_steps}

abbrev pub is_same_step : ℕ × ℕ → ℕ × ℕ → Bool
is_same_step a b = nat_eq a.0 b.0 && nat_eq a.1 b.1

-- where a collection of the generations 0 to g sends what survives, step by step
abbrev pub destinations : Shape → ℕ → List (ℕ × ℕ)
destinations shape g = map (dest shape) (filter (λ at. nat_le at.0 g) (all_steps shape))

-- the places that survivors of the generations 0 to g go to, each once: by generation, then by step
abbrev pub destination_list : Shape → ℕ → List (ℕ × ℕ)
destination_list shape g = filter (λ at. list_any (is_same_step at) (destinations shape g)) (all_steps shape)

-- the place with a number: they are numbered from 0, by generation, then by step
abbrev pub destination_at : Shape → ℕ → ℕ × ℕ
destination_at shape number = if nat_lt 0 (oldest shape) then ((number + 1) / shape.steps, (number + 1) % shape.steps) else (0, 0)

-- the list has each place that a survivor of the generations 0 to g goes to, once, by rising numbers from 0
pub record ListsDestinations (shape : Shape) (g : ℕ) (found : List (ℕ × ℕ)) : Type 0 where
  pub distinct : IsDistinct is_same_step found
  pub count : length found ≡ dest_count shape g
  pub steps : (i : ℕ) (at : ℕ × ℕ) → slice_get found i ≡ Some at → IsStep shape at
  pub places : (i : ℕ) (at : ℕ × ℕ) → slice_get found i ≡ Some at → at ≡ destination_at shape i
  pub numbers : (i : ℕ) (at : ℕ × ℕ) → slice_get found i ≡ Some at → at.0 * shape.steps + at.1 - 1 ≡ i
  pub all : (at : ℕ × ℕ) → IsStep shape at → at.0 ≤ g → Contains found (dest shape at)

-- for each shape that a heap may have
abbrev pub DestinationListIsExact : Type 0
DestinationListIsExact =
    (shape : Shape) (g : ℕ) → 1 ≤ shape.generations → shape.generations ≤ 4 → 1 ≤ shape.steps → shape.steps ≤ 4 → g < shape.generations → ListsDestinations shape g (destination_list shape g)
