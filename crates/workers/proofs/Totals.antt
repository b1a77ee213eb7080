-- Lemmas on sums over lists.
use Rattle.std.proofs.Common.{◌≡◌, ℕ, zero, suc, ◌+◌, ◌<◌, ◌≤◌, Bool, true, false, List, [], ◌∷◌, ◌++◌, Option, Some, None, refl, ap, ◌∙◌, set, length, arith, add-one}
use Rattle.std.specs.Prelude.{slice_get}
use Rattle.workers.specs.Block.{updated}
use Rattle.workers.specs.Total.{total, front_total, one_if}
use Rattle.workers.proofs.Lists.{Each, at, mapped, none-some}

module _ {A : Type 0} (f : A → ℕ) where
  pub total-append : (xs ys : List A) → total f (xs ++ ys) ≡ total f xs + total f ys
  total-append [] ys = omega arith
  total-append (x ∷ xs) ys = let h : total f (xs ++ ys) ≡ total f xs + total f ys = total-append xs ys in omega arith

  pub total-push : (xs : List A) (y : A) → total f (xs ++ y ∷ []) ≡ total f xs + f y
  total-push xs y = let h : total f (xs ++ y ∷ []) ≡ total f xs + total f (y ∷ []) = total-append xs (y ∷ []) in omega arith

  pub total-updated_same : (g : A → A) → ((x : A) → f (g x) ≡ f x) → (xs : List A) (i : ℕ) → total f (updated g xs i) ≡ total f xs
  total-updated_same g k [] i = refl
  total-updated_same g k (x ∷ xs) zero = ap (λ n. n + total f xs) (k x)
  total-updated_same g k (x ∷ xs) (suc i) = ap (λ n. f x + n) (total-updated_same g k xs i)

  pub front_total-updated : (g : A → A) → ((x : A) → f (g x) ≡ f x) → (n : ℕ) (xs : List A) (i : ℕ) → front_total f n (updated g xs i) ≡ front_total f n xs
  front_total-updated g k n [] i = refl
  front_total-updated g k zero (x ∷ xs) zero = refl
  front_total-updated g k zero (x ∷ xs) (suc i) = refl
  front_total-updated g k (suc n) (x ∷ xs) zero = ap (λ m. m + front_total f n xs) (k x)
  front_total-updated g k (suc n) (x ∷ xs) (suc i) = ap (λ m. f x + m) (front_total-updated g k n xs i)

  pub front_total-push : (n : ℕ) (xs : List A) (y : A) → n ≤ length xs → front_total f n (xs ++ y ∷ []) ≡ front_total f n xs
  front_total-push zero [] y h = refl
  front_total-push (suc n) [] y h = absurd (omega arith)
  front_total-push zero (x ∷ xs) y h = refl
  front_total-push (suc n) (x ∷ xs) y h = ap (λ m. f x + m) (front_total-push n xs y (omega arith))

  front_total-zero : (xs : List A) → front_total f 0 xs ≡ 0
  front_total-zero [] = refl
  front_total-zero (x ∷ xs) = refl

  front_total-suc : (n : ℕ) (xs : List A) (y : A) → slice_get xs n ≡ Some y → front_total f (suc n) xs ≡ front_total f n xs + f y
  front_total-suc n [] y e = absurd (none-some e)
  front_total-suc zero (x ∷ xs) y e =
      let q : x ≡ y = cc in
      let z : front_total f 0 xs ≡ 0 = front_total-zero xs in
      let s : f x ≡ f y = ap f q in
      omega arith
  front_total-suc (suc n) (x ∷ xs) y e = let h : front_total f (suc n) xs ≡ front_total f n xs + f y = front_total-suc n xs y e in omega arith

  pub front_total_more : (n : ℕ) (xs : List A) (y : A) → slice_get xs n ≡ Some y → front_total f (n + 1) xs ≡ front_total f n xs + f y
  front_total_more n xs y e = ap (λ m. front_total f m xs) (add-one n) ∙ front_total-suc n xs y e

  pub front_total_all : (n : ℕ) (xs : List A) → length xs ≤ n → front_total f n xs ≡ total f xs
  front_total_all n [] h = refl
  front_total_all zero (x ∷ xs) h = absurd (omega arith)
  front_total_all (suc n) (x ∷ xs) h = ap (λ m. f x + m) (front_total_all n xs (omega arith))

  -- a sum that is not 0 has a member that is not
  pub total_some : (P : A → Type 0) (xs : List A) → Each P xs → 0 < total f xs → (x : A) × (P x × (0 < f x))
  total_some P [] h l = absurd (omega arith)
  total_some P (x ∷ xs) h l = go (f x) refl (total_some P xs h.1)
    where
      go : (n : ℕ) → f x ≡ n → (0 < total f xs → (y : A) × (P y × (0 < f y))) → (y : A) × (P y × (0 < f y))
      go zero e rest = rest (omega arith)
      go (suc n) e rest = (x, (h.0, omega arith))

  abbrev pub of_some : Option A → ℕ
  of_some None = 0
  of_some (Some x) = f x

  pub total-set_some : (xs : List (Option A)) (d : ℕ) (b b' : A) → at xs d ≡ Some b → total of_some (set xs d (Some b')) + f b ≡ total of_some xs + f b'
  total-set_some [] d b b' e = absurd (none-some e)
  total-set_some (x ∷ xs) zero b b' e = let q : of_some x ≡ f b = ap of_some e in omega arith
  total-set_some (x ∷ xs) (suc d) b b' e = let h : total of_some (set xs d (Some b')) + f b ≡ total of_some xs + f b' = total-set_some xs d b b' e in omega arith

  pub total-set_none : (xs : List (Option A)) (d : ℕ) (b' : A) → at xs d ≡ None → d < length xs → total of_some (set xs d (Some b')) ≡ total of_some xs + f b'
  total-set_none [] d b' e r = absurd (omega arith)
  total-set_none (x ∷ xs) zero b' e r = let q : of_some x ≡ 0 = ap of_some e in omega arith
  total-set_none (x ∷ xs) (suc d) b' e r = let h : total of_some (set xs d (Some b')) ≡ total of_some xs + f b' = total-set_none xs d b' e (omega arith) in omega arith

  pub total-updated_some : (g : A → A) (xs : List (Option A)) (d : ℕ) (b : A) → at xs d ≡ Some b → total of_some (updated (mapped g) xs d) + f b ≡ total of_some xs + f (g b)
  total-updated_some g [] d b e = absurd (none-some e)
  total-updated_some g (x ∷ xs) zero b e =
      let q : of_some x ≡ f b = ap of_some e in
      let q2 : of_some (mapped g x) ≡ f (g b) = ap (λ y. of_some (mapped g y)) e in
      omega arith
  total-updated_some g (x ∷ xs) (suc d) b e = let h : total of_some (updated (mapped g) xs d) + f b ≡ total of_some xs + f (g b) = total-updated_some g xs d b e in omega arith

pub total-same : {A : Type 0} (f g : A → ℕ) → ((x : A) → f x ≡ g x) → (xs : List A) → total f xs ≡ total g xs
total-same f g k [] = refl
total-same f g k (x ∷ xs) =
    let a : f x ≡ g x = k x in
    let b : total f xs ≡ total g xs = total-same f g k xs in
    omega arith

pub total-Each : {A : Type 0} (f g : A → ℕ) (P : A → Type 0) → ((x : A) → P x → f x ≡ g x) → (xs : List A) → Each P xs → total f xs ≡ total g xs
total-Each f g P k [] h = refl
total-Each f g P k (x ∷ xs) h =
    let a : f x ≡ g x = k x h.0 in
    let b : total f xs ≡ total g xs = total-Each f g P k xs h.1 in
    omega arith

pub total-sum : {A : Type 0} (f g : A → ℕ) (xs : List A) → total (λ x. f x + g x) xs ≡ total f xs + total g xs
total-sum f g [] = refl
total-sum f g (x ∷ xs) = let h : total (λ x. f x + g x) xs ≡ total f xs + total g xs = total-sum f g xs in omega arith

pub one_if-positive : (b : Bool) → 0 < one_if b → b ≡ true
one_if-positive true h = refl
one_if-positive false h = absurd (omega arith)
