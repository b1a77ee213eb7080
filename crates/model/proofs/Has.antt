-- Membership in a list of numbers, by what the list is made of.
use Rattle.std.proofs.Common.{◌≡◌, ℕ, zero, suc, ◌+◌, ◌<◌, ◌≤◌, Bool, true, false, cond, ◌||◌, ◌&&◌, List, [], ◌∷◌, ◌++◌, map, length, refl, sym, ap, subst, ◌∙◌, arith, ◌⊎◌, inl, inr, ⊎_elim}
use Rattle.std.proofs.lemmas.Bool.{or_cases, or_left, or_right, or_from, and_parts, and_from, eqb-true, eq-eqb, cases_eq, true≢false}
use Rattle.std.proofs.lemmas.List.Folds.{list_any-append}
use Rattle.std.specs.Prelude.{nat_eq, filter}
use Rattle.model.specs.Reached.{has}
use Rattle.model.specs.Destination.{numbers_from}

pub has_none : {P : Type 0} (q : ℕ) → has [] q ≡ true → P
has_none q h = absurd (true≢false (sym h))

-- a list that a number heads
pub has_head : (x : ℕ) (xs : List ℕ) → has (x ∷ xs) x ≡ true
has_head x xs = or_left _ _ (eq-eqb x x refl)

pub has_tail : (x : ℕ) (xs : List ℕ) (q : ℕ) → has xs q ≡ true → has (x ∷ xs) q ≡ true
has_tail x xs q h = or_right _ _ h

pub has-cons : (x : ℕ) (xs : List ℕ) (q : ℕ) → has (x ∷ xs) q ≡ true → (q ≡ x) ⊎ (has xs q ≡ true)
has-cons x xs q h = ⊎_elim (λ e. inl (eqb-true q x e)) (λ r. inr r) (or_cases _ _ h)

-- one list after another
pub has-append : (xs ys : List ℕ) (q : ℕ) → has (xs ++ ys) q ≡ (has xs q || has ys q)
has-append xs ys q = list_any-append (nat_eq q) xs ys

pub has_left : (xs ys : List ℕ) (q : ℕ) → has xs q ≡ true → has (xs ++ ys) q ≡ true
has_left xs ys q h = has-append xs ys q ∙ or_left _ _ h

pub has_right : (xs ys : List ℕ) (q : ℕ) → has ys q ≡ true → has (xs ++ ys) q ≡ true
has_right xs ys q h = has-append xs ys q ∙ or_right _ _ h

pub has_either : (xs ys : List ℕ) (q : ℕ) → has (xs ++ ys) q ≡ true → (has xs q ≡ true) ⊎ (has ys q ≡ true)
has_either xs ys q h = or_cases _ _ (sym (has-append xs ys q) ∙ h)

pub has_neither : (xs ys : List ℕ) (q : ℕ) → has xs q ≡ false → has ys q ≡ false → has (xs ++ ys) q ≡ false
has_neither xs ys q a b = has-append xs ys q ∙ or_from _ _ a b

-- a place in the list
pub record Splits (xs : List ℕ) (q : ℕ) : Type 0 where
  pub before : List ℕ
  pub after : List ℕ
  pub whole : xs ≡ before ++ q ∷ after

pub has_splits : (xs : List ℕ) (q : ℕ) → has xs q ≡ true → Splits xs q
has_splits [] q h = has_none q h
has_splits (x ∷ xs) q h =
    ⊎_elim
    (λ e. record { before = []; after = xs; whole = ap (λ y. y ∷ xs) (sym e) })
    (λ r. let s = has_splits xs q r in record { before = x ∷ s.before; after = s.after; whole = ap (λ ys. x ∷ ys) s.whole })
    (has-cons x xs q h)

-- the image of a list
module _ {X : Type 0} (f : X → ℕ) where
  pub record Imaged (xs : List X) (q : ℕ) : Type 0 where
    pub before : List X
    pub from : X
    pub after : List X
    pub whole : xs ≡ before ++ from ∷ after
    pub is : f from ≡ q

  pub has_map_from : (xs : List X) (q : ℕ) → has (map f xs) q ≡ true → Imaged xs q
  has_map_from [] q h = has_none q h
  has_map_from (x ∷ xs) q h =
      ⊎_elim
      (λ e. record { before = []; from = x; after = xs; whole = refl; is = sym e })
      (λ r. let s = has_map_from xs q r in record { before = x ∷ s.before; from = s.from; after = s.after; whole = ap (λ ys. x ∷ ys) s.whole; is = s.is })
      (has-cons (f x) (map f xs) q h)

  pub has_map_middle : (xs ys : List X) (x : X) → has (map f (xs ++ x ∷ ys)) (f x) ≡ true
  has_map_middle [] ys x = has_head (f x) (map f ys)
  has_map_middle (z ∷ xs) ys x = has_tail (f z) _ (f x) (has_map_middle xs ys x)

pub has_map : (f : ℕ → ℕ) (xs : List ℕ) (q : ℕ) → has xs q ≡ true → has (map f xs) (f q) ≡ true
has_map f [] q h = has_none q h
has_map f (x ∷ xs) q h =
    ⊎_elim
    (λ e. or_left _ _ (eq-eqb (f q) (f x) (ap f e)))
    (λ r. has_tail (f x) _ (f q) (has_map f xs q r))
    (has-cons x xs q h)

pub has_map_of : (f : ℕ → ℕ) (xs : List ℕ) (q : ℕ) → has (map f xs) q ≡ true → (x : ℕ) × (has xs x ≡ true) × (f x ≡ q)
has_map_of f [] q h = has_none q h
has_map_of f (x ∷ xs) q h =
    ⊎_elim
    (λ e. (x, has_head x xs, sym e))
    (λ r. let s = has_map_of f xs q r in (s.0, has_tail x xs s.0 s.1, s.2))
    (has-cons (f x) (map f xs) q h)

-- what a test keeps
pub has-filter : (p : ℕ → Bool) (xs : List ℕ) (q : ℕ) → has (filter p xs) q ≡ (has xs q && p q)
has-filter p [] q = refl
has-filter p (x ∷ xs) q = go (p x) refl (nat_eq q x) refl (has-filter p xs q)
  where
    never : (b : Bool) → (b && false) ≡ false
    never true = refl
    never false = refl

    go : (b : Bool) → p x ≡ b → (e : Bool) → nat_eq q x ≡ e → has (filter p xs) q ≡ (has xs q && p q) → has (cond b (x ∷ filter p xs) (filter p xs)) q ≡ ((e || has xs q) && p q)
    go true pb true eq rest = or_left _ _ eq ∙ sym (subst (λ y. p y ≡ true) (sym (eqb-true q x eq)) pb)
    go true pb false eq rest = ap (λ b. b || has (filter p xs) q) eq ∙ rest
    go false pb true eq rest =
        let no : p q ≡ false = subst (λ y. p y ≡ false) (sym (eqb-true q x eq)) pb in
        rest ∙ ap (λ b. has xs q && b) no ∙ never (has xs q) ∙ sym no
    go false pb false eq rest = rest

pub has_filter_from : (p : ℕ → Bool) (xs : List ℕ) (q : ℕ) → has (filter p xs) q ≡ true → (has xs q ≡ true) × (p q ≡ true)
has_filter_from p xs q h = and_parts _ _ (sym (has-filter p xs q) ∙ h)

pub has_filter : (p : ℕ → Bool) (xs : List ℕ) (q : ℕ) → has xs q ≡ true → p q ≡ true → has (filter p xs) q ≡ true
has_filter p xs q h k = has-filter p xs q ∙ and_from _ _ h k

-- numbers in a row
pub has_numbers : (i n q : ℕ) → i ≤ q → q < i + n → has (numbers_from i n) q ≡ true
has_numbers i zero q a b = absurd (omega arith)
has_numbers i (suc n) q a b =
    ⊎_elim
    (λ e. or_left _ _ (eq-eqb q i e))
    (λ ne. let lt : i + 1 ≤ q = omega arith in has_tail i _ q (has_numbers (i + 1) n q lt (omega arith)))
    (cases_eq q i)

pub has_numbers_from : (i n q : ℕ) → has (numbers_from i n) q ≡ true → (i ≤ q) × (q < i + n)
has_numbers_from i zero q h = has_none q h
has_numbers_from i (suc n) q h =
    ⊎_elim
    (λ e. (omega arith, omega arith))
    (λ r. let s = has_numbers_from (i + 1) n q r in (omega (arith, s.0), omega (arith, s.1)))
    (has-cons i (numbers_from (i + 1) n) q h)

pub length-numbers_from : (i n : ℕ) → length (numbers_from i n) ≡ n
length-numbers_from i zero = refl
length-numbers_from i (suc n) = ap suc (length-numbers_from (i + 1) n)

pub numbers_from-append : (i m n : ℕ) → numbers_from i (m + n) ≡ numbers_from i m ++ numbers_from (i + m) n
numbers_from-append i zero n = let e : zero + n ≡ n = omega arith in let f : i + zero ≡ i = omega arith in rw (e, f) refl
numbers_from-append i (suc m) n =
    let e : suc m + n ≡ suc (m + n) = omega arith in
    let f : i + suc m ≡ (i + 1) + m = omega arith in
    rw (e, f) (ap (λ xs. i ∷ xs) (numbers_from-append (i + 1) m n))
