-- How many pairs of a list have a name, summed over names.
use Rattle.std.proofs.Common.{◌≡◌, ◌≢◌, ℕ, zero, suc, ◌+◌, ◌<◌, ◌≤◌, [], ◌∷◌, All, length, refl, arith, eq-eqb, ne_eqb}
use Rattle.std.proofs.lemmas.List.Elements.{All-head, All-tail}
use mathlib.Core.Logic.{dite}
use native.Mathlib.Decide.{ℕ_discrete, dec_le}
use Rattle.layout.specs.declared.place.Place.{Place}
use Rattle.forwarding.specs.Settled.{Pairs, wins_of}

pub wins-one : (name : ℕ) (place : Place) → wins_of name ((name, place) ∷ []) ≡ 1
wins-one name place = rw (eq-eqb name name refl) refl

pub wins-other : (name other : ℕ) (place : Place) → other ≢ name → wins_of name ((other, place) ∷ []) ≡ 0
wins-other name other place ne = rw (ne_eqb other name ne) refl

-- the sum of f over the names below n
pub sum_names : (ℕ → ℕ) → ℕ → ℕ
sum_names f zero = 0
sum_names f (suc n) = sum_names f n + f n

pub sum_zero : (f : ℕ → ℕ) → sum_names f 0 ≡ 0
unfolding sum_names
sum_zero f = refl

pub sum_le : (f g : ℕ → ℕ) (n : ℕ) → ((k : ℕ) → f k ≤ g k) → sum_names f n ≤ sum_names g n
unfolding sum_names
sum_le f g zero each = omega arith
sum_le f g (suc n) each = let r = sum_le f g n each in let h = each n in omega arith

pub sum_lt : (f g : ℕ → ℕ) (n name : ℕ) → ((k : ℕ) → f k ≤ g k) → name < n → f name < g name → sum_names f n < sum_names g n
unfolding sum_names
sum_lt f g zero name each l less = absurd (omega arith)
sum_lt f g (suc n) name each l less = dite (ℕ_discrete name n)
    (λ (is : name ≡ n). let r = sum_le f g n each in let h : f n < g n = rw (← is) less in omega arith)
    (λ ne. let r = sum_lt f g n name each (omega arith) less in let h = each n in omega arith)

-- two functions of which one is nowhere above the other, and whose sums are equal, are equal
pub sum_same : (f g : ℕ → ℕ) (n name : ℕ) → ((k : ℕ) → f k ≤ g k) → name < n → sum_names f n ≡ sum_names g n → f name ≡ g name
sum_same f g n name each l same = dite (dec_le (g name) (f name))
    (λ (above : g name ≤ f name). let h = each name in omega arith)
    (λ below. let r = sum_lt f g n name each l (omega arith) in absurd (omega arith))

pub sum_each : (f g : ℕ → ℕ) (n : ℕ) → ((k : ℕ) → f k ≡ g k) → sum_names f n ≡ sum_names g n
unfolding sum_names
sum_each f g zero each = refl
sum_each f g (suc n) each = let r = sum_each f g n each in let h = each n in omega arith

pub sum_of_ones : (n : ℕ) → sum_names (λ _. 1) n ≡ n
unfolding sum_names
sum_of_ones zero = refl
sum_of_ones (suc n) = let r = sum_of_ones n in omega arith

-- the first name's part, and the sum over the others
pub sum_first : (f : ℕ → ℕ) (n : ℕ) → sum_names f (suc n) ≡ f 0 + sum_names (λ k. f (suc k)) n
unfolding sum_names
sum_first f zero = omega arith
sum_first f (suc n) = let r = sum_first f n in omega arith

sum_none : (n : ℕ) → sum_names (λ k. wins_of k []) n ≡ 0
unfolding sum_names
sum_none zero = refl
sum_none (suc n) = let r = sum_none n in omega arith

sum_cons-above : (n : ℕ) (x : ℕ × Place) (xs : Pairs) → n ≤ x.0 → sum_names (λ k. wins_of k (x ∷ xs)) n ≡ sum_names (λ k. wins_of k xs) n
unfolding sum_names
sum_cons-above zero x xs h = refl
sum_cons-above (suc n) x xs h = let r = sum_cons-above n x xs (omega arith) in let ne : wins_of n (x ∷ xs) ≡ wins_of n xs = rw (ne_eqb x.0 n (λ e. omega arith)) (omega arith) in omega arith

sum_cons-below : (n : ℕ) (x : ℕ × Place) (xs : Pairs) → x.0 < n → sum_names (λ k. wins_of k (x ∷ xs)) n ≡ suc (sum_names (λ k. wins_of k xs) n)
unfolding sum_names
sum_cons-below zero x xs h = absurd (omega arith)
sum_cons-below (suc n) x xs h = dite (ℕ_discrete x.0 n)
    (λ is. let r = sum_cons-above n x xs (omega arith) in let one : wins_of n (x ∷ xs) ≡ 1 + wins_of n xs = rw (eq-eqb x.0 n is) in omega arith)
    (λ ne. let r = sum_cons-below n x xs (omega arith) in let none : wins_of n (x ∷ xs) ≡ wins_of n xs = rw (ne_eqb x.0 n ne) (omega arith) in omega arith)

-- each pair has one name
pub sum_wins : (n : ℕ) (xs : Pairs) → All (λ (x : ℕ × Place). x.0 < n) xs → length xs ≡ sum_names (λ k. wins_of k xs) n
sum_wins n [] a = let r = sum_none n in omega arith
sum_wins n (x ∷ xs) a = let P : ℕ × Place → Type 0 = λ (y : ℕ × Place). y.0 < n in let h = sum_cons-below n x xs (All-head P x xs a) in let r = sum_wins n xs (All-tail P x xs a) in omega arith
