-- Where an object goes when it survives, and how many such places a collection has.
use Rattle.std.specs.Prelude.{ℕ, zero, suc, ◌+◌, ◌-◌, ◌*◌, List, [], ◌∷◌, ◌++◌, map, flat_map, ◌<◌, if◌then◌else◌, nat_lt, max}

-- generations and steps of a heap; each generation but the oldest has so many steps
pub record Shape : Type 0 where
  pub generations : ℕ
  pub steps : ℕ

abbrev pub oldest : Shape → ℕ
oldest shape = shape.generations - 1

-- how many steps a generation has: the oldest has one
abbrev pub steps_in : Shape → ℕ → ℕ
steps_in shape h = if nat_lt h (oldest shape) then shape.steps else 1

-- a generation, and one of its steps
pub record IsStep (shape : Shape) (at : ℕ × ℕ) : Type 0 where
  pub generation : at.0 < shape.generations
  pub step : at.1 < steps_in shape at.0

-- the generation and step after one survived collection
abbrev pub dest : Shape → ℕ × ℕ → ℕ × ℕ
dest shape (h, s) =
    if nat_lt h (oldest shape)
    then (if nat_lt s (shape.steps - 1) then (h, s + 1) else (h + 1, 0))
    else (oldest shape, 0)

-- the number of destinations of a collection of the generations 0 to g
abbrev pub dest_count : Shape → ℕ → ℕ
dest_count shape g = if nat_lt g (oldest shape) then (g + 1) * shape.steps else max 1 (oldest shape * shape.steps)

-- so many numbers, from i on
abbrev pub numbers_from : ℕ → ℕ → List ℕ
numbers_from i zero = []
numbers_from i (suc n) = i ∷ numbers_from (i + 1) n

-- every generation and step, generations rising, steps rising
abbrev pub all_steps : Shape → List (ℕ × ℕ)
all_steps shape = flat_map (λ g. map (λ s. (g, s)) (numbers_from 0 shape.steps)) (numbers_from 0 (oldest shape)) ++ (oldest shape, 0) ∷ []
