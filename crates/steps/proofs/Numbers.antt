-- Numbers from one on, one more at a time.
use Rattle.std.proofs.Common.{◌≡◌, ℕ, zero, suc, ◌+◌, List, [], ◌∷◌, ◌++◌, length, map, flat_map, refl, sym, ap, ◌∙◌, arith}
use Rattle.std.proofs.lemmas.List.{map-append, length-map}
use Rattle.std.proofs.lemmas.List.{append_assoc, append-nil}
use Rattle.model.specs.Destination.{numbers_from}

pub numbers-more : (i n : ℕ) → numbers_from i (n + 1) ≡ numbers_from i n ++ (i + n) ∷ []
numbers-more i zero = let none : i + 0 ≡ i = omega arith in rw none refl
numbers-more i (suc n) =
    let next : i + suc n ≡ i + 1 + n = omega arith in
    let more : suc n + 1 ≡ suc (n + 1) = omega arith in
    rw (next, more) (ap (λ ns. i ∷ ns) (numbers-more (i + 1) n))

numbers-next : (n : ℕ) → numbers_from 0 (n + 1) ≡ numbers_from 0 n ++ n ∷ []
numbers-next n = let same : 0 + n ≡ n = omega arith in numbers-more 0 n ∙ ap (λ k. numbers_from 0 n ++ k ∷ []) same

pub length-numbers : (i n : ℕ) → length (numbers_from i n) ≡ n
length-numbers i zero = refl
length-numbers i (suc n) = ap suc (length-numbers (i + 1) n)

-- the steps of a generation
abbrev pub steps_at : ℕ → ℕ → List (ℕ × ℕ)
steps_at generation steps = map (λ s. (generation, s)) (numbers_from 0 steps)

pub steps-more : (generation n : ℕ) → steps_at generation (n + 1) ≡ steps_at generation n ++ (generation, n) ∷ []
steps-more generation n = ap (map (λ s. let p : ℕ × ℕ = (generation, s) in p)) (numbers-next n) ∙ map-append (λ s. let p : ℕ × ℕ = (generation, s) in p) (numbers_from 0 n) (n ∷ [])

pub length-steps : (generation n : ℕ) → length (steps_at generation n) ≡ n
length-steps generation n = length-map (numbers_from 0 n) (λ s. let p : ℕ × ℕ = (generation, s) in p) ∙ length-numbers 0 n

-- the steps of the generations before one
abbrev pub steps_below : ℕ → ℕ → List (ℕ × ℕ)
steps_below generations steps = flat_map (λ g. steps_at g steps) (numbers_from 0 generations)

flat-append : (f : ℕ → List (ℕ × ℕ)) (xs : List ℕ) (x : ℕ) → flat_map f (xs ++ x ∷ []) ≡ flat_map f xs ++ f x
flat-append f [] x = append-nil (f x)
flat-append f (y ∷ xs) x = ap (λ ps. f y ++ ps) (flat-append f xs x) ∙ sym (append_assoc (f y) (flat_map f xs) (f x))

pub below-more : (generations steps : ℕ) → steps_below (generations + 1) steps ≡ steps_below generations steps ++ steps_at generations steps
below-more generations steps = ap (flat_map (λ g. steps_at g steps)) (numbers-next generations) ∙ flat-append (λ g. steps_at g steps) (numbers_from 0 generations) generations
