-- How often names and places stand in lists, and sums over parts of lists.
use Rattle.std.specs.Prelude.{ℕ, zero, suc, ◌+◌, List, [], ◌∷◌, Option, Some, None, nat_eq}
pub use Rattle.model.specs.Total.{total, one_if}

-- over the first so many
abbrev pub front_total : {A : Type 0} → (A → ℕ) → ℕ → List A → ℕ
front_total f n [] = 0
front_total f zero (x ∷ xs) = 0
front_total f (suc n) (x ∷ xs) = f x + front_total f n xs

-- how often it stands in the list
abbrev pub times : ℕ → List ℕ → ℕ
times n xs = total (λ x. one_if (nat_eq x n)) xs

-- how often the name was won
abbrev pub wins_of : ℕ → List (ℕ × ℕ) → ℕ
wins_of name pairs = total (λ (p : ℕ × ℕ). one_if (nat_eq p.0 name)) pairs

abbrev pub ones : {A : Type 0} → Option A → ℕ
ones None = 0
ones (Some x) = 1
