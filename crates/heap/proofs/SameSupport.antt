-- Two rising lists that hold each number that matters come to the same.
use Rattle.std.proofs.Common.{◌≡◌, ℕ, zero, suc, ◌+◌, ◌<◌, ◌≤◌, false, List, [], ◌∷◌, ◌++◌, length, get_or, refl, sym, ap, ◌∙◌, arith, ⊎_elim}
use Rattle.std.proofs.lemmas.Bool.{cases_eq, cases_lt, or_from}
use Rattle.std.proofs.lemmas.Bool.Decides.{nat_tests}
use Rattle.std.specs.Prelude.{flat_map, nat_eq}
use Rattle.std.specs.List.{AllPairs}
use Rattle.model.specs.Reached.{has}

-- each number is above those before it, and none is below low
abbrev RisesFrom : ℕ → List ℕ → Type 0
RisesFrom low [] = Unit {0}
RisesFrom low (x ∷ xs) = (low ≤ x) × RisesFrom (x + 1) xs

rises : (low : ℕ) (xs : List ℕ) → AllPairs (λ x y. x < y) xs → ((i d : ℕ) → i < length xs → low ≤ get_or xs i d) → RisesFrom low xs
rises low [] pairs above = tt
rises low (x ∷ xs) pairs above = (
  above 0 0 (omega arith),
  rises (x + 1) xs (λ i j d lt in_range. pairs (suc i) (suc j) d (omega (arith, lt)) (omega (arith, in_range)))
      (λ i d lt. let next : x < get_or xs i d = pairs 0 (suc i) d (omega arith) (omega (arith, lt)) in omega (arith, next)),
)

weaker : (low high : ℕ) (xs : List ℕ) → low ≤ high → RisesFrom high xs → RisesFrom low xs
weaker low high [] le r = tt
weaker low high (x ∷ xs) le r = (omega (arith, r.0), r.1)

-- a number below all isn't among them
none_below : (n low : ℕ) (xs : List ℕ) → n < low → RisesFrom low xs → has xs n ≡ false
none_below n low [] lt r = refl
none_below n low (x ∷ xs) lt r =
    let here : nat_eq n x ≡ false = grind (arith, nat_tests, lt, r.0) in
    or_from _ _ here (none_below n (x + 1) xs (omega (arith, r.0)) r.1)

other_head : (n x : ℕ) (xs : List ℕ) → x < n → has xs n ≡ false → has (x ∷ xs) n ≡ false
other_head n x xs lt none = let here : nat_eq n x ≡ false = grind (arith, nat_tests, lt) in or_from _ _ here none

module _ {S : Type 0} (f : ℕ → List S) where
  all_none : (xs : List ℕ) (low : ℕ) → RisesFrom low xs → ((n : ℕ) → low ≤ n → f n ≡ []) → flat_map f xs ≡ []
  all_none [] low r none = refl
  all_none (x ∷ xs) low r none = ap (λ ss. ss ++ flat_map f xs) (none x r.0) ∙ all_none xs (x + 1) r.1 (λ n le. none n (omega (arith, r.0)))

  merged : (fuel low : ℕ) (xs ys : List ℕ) → length xs + length ys ≤ fuel → RisesFrom low xs → RisesFrom low ys
      → ((n : ℕ) → low ≤ n → has xs n ≡ false → f n ≡ []) → ((n : ℕ) → low ≤ n → has ys n ≡ false → f n ≡ []) → flat_map f xs ≡ flat_map f ys
  merged fuel low [] ys le r s left right = sym (all_none ys low s (λ n h. left n h refl))
  merged fuel low (x ∷ xs) [] le r s left right = all_none (x ∷ xs) low r (λ n h. right n h refl)
  merged zero low (x ∷ xs) (y ∷ ys) le r s left right = absurd (omega (arith, le))
  merged (suc fuel) low (x ∷ xs) (y ∷ ys) le r s left right = ⊎_elim
      (λ same.
      let rest : flat_map f xs ≡ flat_map f ys = merged fuel (x + 1) xs ys (omega (arith, le)) r.1 (rw (← same) at s.1)
      (λ n h none. left n (omega (arith, r.0)) (other_head n x xs (omega arith) none))
      (λ n h none. right n (omega (arith, r.0)) (other_head n y ys (omega (arith, same)) none)) in
      ap (λ z. f z ++ flat_map f xs) same ∙ ap (λ ss. f y ++ ss) rest)
      (λ differ. ⊎_elim
      (λ lt.
      let above : RisesFrom (x + 1) (y ∷ ys) = (omega (arith, lt), s.1) in
      ap (λ ss. ss ++ flat_map f xs) (right x r.0 (none_below x (x + 1) (y ∷ ys) (omega arith) above))
      ∙ merged fuel (x + 1) xs (y ∷ ys) (omega (arith, le)) r.1 above
      (λ n h none. left n (omega (arith, r.0)) (other_head n x xs (omega arith) none))
      (λ n h none. right n (omega (arith, r.0)) none))
      (λ ge.
      let above : RisesFrom (y + 1) (x ∷ xs) = (omega (arith, ge, differ), r.1) in
      sym (ap (λ ss. ss ++ flat_map f ys) (left y s.0 (none_below y (y + 1) (x ∷ xs) (omega arith) above))
      ∙ sym (merged fuel (y + 1) (x ∷ xs) ys (omega (arith, le)) above s.1
      (λ n h none. left n (omega (arith, s.0)) none)
      (λ n h none. right n (omega (arith, s.0)) (other_head n y ys (omega arith) none)))))
      (cases_lt x y))
      (cases_eq x y)

  pub same_support : (xs ys : List ℕ) → AllPairs (λ x y. x < y) xs → AllPairs (λ x y. x < y) ys
      → ((n : ℕ) → has xs n ≡ false → f n ≡ []) → ((n : ℕ) → has ys n ≡ false → f n ≡ []) → flat_map f xs ≡ flat_map f ys
  same_support xs ys r s left right =
      merged (length xs + length ys) 0 xs ys (omega arith) (rises 0 xs r (λ i d lt. omega arith)) (rises 0 ys s (λ i d lt. omega arith)) (λ n h. left n) (λ n h. right n)
