-- What holds of each element at its place, as a loop goes on.
use Rattle.std.proofs.Common.{◌≡◌, ℕ, zero, suc, ◌+◌, ◌<◌, List, [], ◌∷◌, ◌++◌, length, Some, None, refl, sym, ap, subst, ◌∙◌, arith, nat_eq, false}
use Rattle.std.proofs.lemmas.Bool.{eqb-false}
use Rattle.std.proofs.lemmas.Option.{slice_get_read}
use Rattle.std.specs.Prelude.{remove, slice_get, slice_index_or}
use Rattle.forwarding.specs.Passes.{AtEach}

some_same : {X : Type 0} (x y : X) → Some x ≡ Some y → x ≡ y
some_same x y e = grind (arith, e)

no_some : {X : Type 0} (x : X) → None ≡ Some x → ⊥
no_some x e = grind (arith, e)

pub some_in : (n : ℕ) → nat_eq n 0 ≡ false → 0 < n
some_in n e = omega (arith, eqb-false n 0 e)

pub at_push : {X : Type 0} (F : ℕ → X → Type 0) (xs : List X) (x : X) → AtEach F xs → F (length xs) x → AtEach F (xs ++ x ∷ [])
at_push F [] x h f zero y e = subst (F 0) (some_same x y e) f
at_push F [] x h f (suc i) y e = absurd (no_some y e)
at_push F (z ∷ xs) x h f zero y e = h 0 y e
at_push F (z ∷ xs) x h f (suc i) y e = at_push (λ k. F (suc k)) xs x (λ k u a. h (suc k) u a) f i y e

-- the elements that are left, when the first of them stood at place n
pub at_rest : {X : Type 0} (F : ℕ → X → Type 0) (n m : ℕ) (x : X) (all xs : List X) → all ≡ x ∷ xs → m ≡ n + 1 → AtEach (λ i. F (n + i)) all → AtEach (λ i. F (m + i)) xs
at_rest F n m x all xs are is h i y e = subst (λ k. F k y) (let z : n + suc i ≡ m + i = omega (arith, is) in z) (subst (λ l. AtEach (λ i. F (n + i)) l) are h (suc i) y e)

pub at_first : {X : Type 0} (F : ℕ → X → Type 0) (n : ℕ) (x : X) (all xs : List X) → all ≡ x ∷ xs → AtEach (λ i. F (n + i)) all → F n x
at_first F n x all xs are h = subst (λ k. F k x) (let z : n + 0 ≡ n = omega arith in z) (subst (λ l. AtEach (λ i. F (n + i)) l) are h 0 x refl)

-- what is left at first is all
pub at_begin : {X : Type 0} (F : ℕ → X → Type 0) (z : ℕ) (all xs : List X) → xs ≡ all → z ≡ 0 → AtEach F all → AtEach (λ i. F (z + i)) xs
at_begin F z all xs are none h i y e = subst (λ k. F k y) (let q : i ≡ z + i = omega (arith, none) in q) (h i y (sym (ap (λ l. slice_get l i) are) ∙ e))

-- the first of all, and what is left without it
pub at_head : {X : Type 0} (F : ℕ → X → Type 0) (x : X) (all : List X) → 0 < length all → x ≡ slice_index_or all 0 x → AtEach F all → F 0 x
at_head F x all within is h = h 0 x (slice_get_read all (length all) 0 x refl within is)

pub at_tail : {X : Type 0} (F : ℕ → X → Type 0) (all xs : List X) → xs ≡ remove all 0 → AtEach F all → AtEach (λ i. F (1 + i)) xs
at_tail F [] xs are h i y e = absurd (no_some y (sym (ap (λ l. slice_get l i) are) ∙ e))
at_tail F (z ∷ zs) xs are h i y e = subst (λ k. F k y) (let n : suc i ≡ 1 + i = omega arith in n) (h (suc i) y (sym (ap (λ l. slice_get l i) are) ∙ e))

-- all, of the first and of the others
pub at_both : {X : Type 0} (F : ℕ → X → Type 0) (x : X) (xs all : List X) → all ≡ x ∷ xs → F 0 x → AtEach (λ i. F (1 + i)) xs → AtEach F all
at_both F x xs all are f h zero y e = subst (F 0) (some_same x y (sym (ap (λ l. slice_get l 0) are) ∙ e)) f
at_both F x xs all are f h (suc i) y e = subst (λ k. F k y) (let n : 1 + i ≡ suc i = omega arith in n) (h i y (sym (ap (λ l. slice_get l (suc i)) are) ∙ e))

pub at_none : {X : Type 0} (F : ℕ → X → Type 0) (xs : List X) → xs ≡ [] → AtEach F xs
at_none F xs none i x e = absurd (no_some x (sym (ap (λ l. slice_get l i) none) ∙ e))
