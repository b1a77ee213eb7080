-- Numbers below n: a list of n elements whose numbers differ has each number once.
use Rattle.std.proofs.Common.{◌≡◌, ◌≢◌, ℕ, zero, suc, ◌+◌, ◌<◌, ◌≤◌, List, [], ◌∷◌, All, length, sym, refl, ◌∙◌, arith, eq-eqb, ne_eqb}
use Rattle.std.specs.List.{AllPairs}
use Rattle.std.proofs.lemmas.List.Elements.{All-head, All-tail}
use mathlib.Core.Logic.{dite}
use native.Mathlib.Decide.{ℕ_discrete}
use Rattle.model.specs.Total.{times}

module _ {X : Type 0} (number : X → ℕ) where
  times-here : (n : ℕ) (x : X) (xs : List X) → number x ≡ n → times number n (x ∷ xs) ≡ 1 + times number n xs
  times-here n x xs is = rw (eq-eqb (number x) n is)

  times-there : (n : ℕ) (x : X) (xs : List X) → number x ≢ n → times number n (x ∷ xs) ≡ times number n xs
  times-there n x xs ne = rw (ne_eqb (number x) n ne) (omega arith)

  -- how many elements have a number below n
  sum_times : ℕ → List X → ℕ
  sum_times zero xs = 0
  sum_times (suc n) xs = sum_times n xs + times number n xs

  sum_times-nil : (n : ℕ) → sum_times n [] ≡ 0
  unfolding sum_times
  sum_times-nil zero = refl
  sum_times-nil (suc n) = let r = sum_times-nil n in omega arith

  sum_times-above : (n : ℕ) (x : X) (xs : List X) → n ≤ number x → sum_times n (x ∷ xs) ≡ sum_times n xs
  unfolding sum_times
  sum_times-above zero x xs h = refl
  sum_times-above (suc n) x xs h = let r = sum_times-above n x xs (omega arith) in let none = times-there n x xs (λ e. omega arith) in omega arith

  sum_times-below : (n : ℕ) (x : X) (xs : List X) → number x < n → sum_times n (x ∷ xs) ≡ suc (sum_times n xs)
  unfolding sum_times
  sum_times-below zero x xs h = absurd (omega arith)
  sum_times-below (suc n) x xs h = dite (ℕ_discrete (number x) n)
      (λ is. let r = sum_times-above n x xs (omega arith) in let one = times-here n x xs is in omega arith)
      (λ ne. let r = sum_times-below n x xs (omega arith) in let none = times-there n x xs ne in omega arith)

  sum_times-all : (n : ℕ) (xs : List X) → All (λ (x : X). number x < n) xs → length xs ≡ sum_times n xs
  sum_times-all n [] a = let r = sum_times-nil n in omega arith
  sum_times-all n (x ∷ xs) a =
      let P : X → Type 0 = λ y. number y < n in
      let h = sum_times-below n x xs (All-head P x xs a) in
      let r = sum_times-all n xs (All-tail P x xs a) in omega arith

  sum_times-most : (n : ℕ) (xs : List X) → ((k : ℕ) → times number k xs ≤ 1) → sum_times n xs ≤ n
  unfolding sum_times
  sum_times-most zero xs each = omega arith
  sum_times-most (suc n) xs each = let r = sum_times-most n xs each in let h = each n in omega arith

  sum_times-less : (n : ℕ) (xs : List X) (m : ℕ) → ((k : ℕ) → times number k xs ≤ 1) → m < n → times number m xs ≡ 0 → sum_times n xs < n
  unfolding sum_times
  sum_times-less zero xs m each l none = absurd (omega arith)
  sum_times-less (suc n) xs m each l none = dite (ℕ_discrete m n)
      (λ (is : m ≡ n). let r = sum_times-most n xs each in let none' : times number n xs ≡ 0 = rw (← is) none in omega arith)
      (λ ne. let r = sum_times-less n xs m each (omega arith) none in let h = each n in omega arith)

  -- where a number is missing there are fewer than n
  pub few : (n : ℕ) (xs : List X) (m : ℕ) → ((k : ℕ) → times number k xs ≤ 1) → m < n → times number m xs ≡ 0 → All (λ (x : X). number x < n) xs → length xs < n
  few n xs m each l none a = let h = sum_times-less n xs m each l none in let e = sum_times-all n xs a in omega arith

  AllPairs-head : (R : X → X → Type 0) (x : X) (xs : List X) → AllPairs R (x ∷ xs) → All (R x) xs
  AllPairs-head R x xs pairs k d below = pairs zero (suc k) d (omega arith) (omega arith)

  AllPairs-tail : (R : X → X → Type 0) (x : X) (xs : List X) → AllPairs R (x ∷ xs) → AllPairs R xs
  AllPairs-tail R x xs pairs i j d less below = pairs (suc i) (suc j) d (omega arith) (omega arith)

  absent : (n : ℕ) (xs : List X) → All (λ (x : X). number x ≢ n) xs → times number n xs ≡ 0
  absent n [] a = refl
  absent n (x ∷ xs) a =
      let P : X → Type 0 = λ y. number y ≢ n in
      let here = times-there n x xs (All-head P x xs a) in
      let r = absent n xs (All-tail P x xs a) in omega arith

  -- elements whose numbers differ have each number once at most
  pub once_at_most : (xs : List X) → AllPairs (λ (x y : X). number x ≢ number y) xs → (k : ℕ) → times number k xs ≤ 1
  once_at_most [] pairs k = omega arith
  once_at_most (x ∷ xs) pairs k =
      let R : X → X → Type 0 = λ y z. number y ≢ number z in
      dite (ℕ_discrete (number x) k)
      (λ is. let others : All (λ (y : X). number y ≢ k) xs = λ j d below e. AllPairs-head R x xs pairs j d below (is ∙ sym e) in
      let none = absent k xs others in let one = times-here k x xs is in omega arith)
      (λ ne. let r = once_at_most xs (AllPairs-tail R x xs pairs) k in let none = times-there k x xs ne in omega arith)

  pub once_each : (n : ℕ) (xs : List X) → length xs ≡ n → All (λ (x : X). number x < n) xs → AllPairs (λ (x y : X). number x ≢ number y) xs → (k : ℕ) → k < n → times number k xs ≡ 1
  once_each n xs many below pairs k l =
      let most = once_at_most xs pairs in
      dite (ℕ_discrete (times number k xs) 0)
      (λ none. let h = few n xs k most l none below in absurd (omega arith))
      (λ some. let m = most k in omega arith)
