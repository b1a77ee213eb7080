-- How many elements of a list have a number.
use Rattle.std.proofs.Common.{◌≡◌, ℕ, ◌+◌, List, [], ◌∷◌, ◌++◌, arith}
use Rattle.model.specs.Total.{times}

pub times-append : {X : Type 0} (number : X → ℕ) (n : ℕ) (xs ys : List X) → times number n (xs ++ ys) ≡ times number n xs + times number n ys
times-append number n [] ys = omega arith
times-append number n (x ∷ xs) ys = let r = times-append number n xs ys in omega arith
