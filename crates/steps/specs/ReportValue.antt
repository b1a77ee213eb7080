-- What the workers of a collection report.
use Rattle.std.specs.Prelude.{ℕ, List, map, flat_map, slice_index, refl}
use Rattle.std.specs.Coded.{Coded, code_by, coded×, coded_ℕ, coded_list}

-- what one worker won, each an object's number with its new place, and the places that it scanned
pub record WorkerLists : Type 0 where
  pub won : List (ℕ × ℕ)
  pub scanned : List ℕ

abbrev pub lists_code : Coded WorkerLists
lists_code =
    code_by (List (ℕ × ℕ) × List ℕ) (coded× (coded_list (coded× coded_ℕ coded_ℕ)) (coded_list coded_ℕ)) (λ w. (w.won, w.scanned)) (λ p. record { won = p.0; scanned = p.1 }) (λ _. refl)

-- what all workers won
abbrev pub all_won : List WorkerLists → List (ℕ × ℕ)
all_won workers = flat_map (λ w. w.won) workers

-- the old and new name of each object won, where these names are numbered so
abbrev pub renaming_of : List ℕ → List (ℕ × ℕ) → List (ℕ × ℕ)
renaming_of names won = map (λ e. (slice_index names e.0, e.1)) won
