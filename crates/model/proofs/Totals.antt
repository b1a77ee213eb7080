-- How a sum over all views changes where one view does.
use Rattle.std.proofs.Common.{◌≡◌, ◌≢◌, ℕ, zero, suc, ◌+◌, ◌<◌, ◌≤◌, List, [], ◌∷◌, ◌++◌, set, length, sym, refl, ap, ◌∙◌, arith}
use mathlib.Core.Option.{none, some, some-injective, some-ne-none}
use lib.ListN.{get_elem?}
use Rattle.model.specs.Total.{total}

module _ {V : Type 0} (f : V → ℕ) where
  pub total-set : (views : List V) (i : ℕ) (v w : V) → get_elem? views i ≡ some v → total f (set views i w) + f v ≡ total f views + f w
  total-set [] i v w e = absurd (some-ne-none v (sym e))
  total-set (x ∷ xs) zero v w e = let is : f x ≡ f v = ap f (some-injective x v e) in omega arith
  total-set (x ∷ xs) (suc i) v w e = let r = total-set xs i v w e in omega arith

  pub total-snoc : (views : List V) (v : V) → total f (views ++ v ∷ []) ≡ total f views + f v
  total-snoc [] v = omega arith
  total-snoc (x ∷ xs) v = let r = total-snoc xs v in omega arith

  -- one view is no more than all
  pub total-at : (views : List V) (i : ℕ) (v : V) → get_elem? views i ≡ some v → f v ≤ total f views
  total-at [] i v e = absurd (some-ne-none v (sym e))
  total-at (x ∷ xs) zero v e = let is : f x ≡ f v = ap f (some-injective x v e) in omega arith
  total-at (x ∷ xs) (suc i) v e = let r = total-at xs i v e in omega arith

  pub total-same : (views : List V) (i : ℕ) (v w : V) → get_elem? views i ≡ some v → f w ≡ f v → total f (set views i w) ≡ total f views
  total-same views i v w e is = let r = total-set views i v w e in omega arith

module _ {V : Type 0} (f g : V → ℕ) where
  -- where g is 0 of each view of which f is 0, and the sum of f is 0, that of g is 0
  pub total-none : (views : List V) → ((i : ℕ) (v : V) → get_elem? views i ≡ some v → f v ≡ 0 → g v ≡ 0) → total f views ≡ 0 → total g views ≡ 0
  total-none [] idle e = refl
  total-none (x ∷ xs) idle e =
      let r = total-none xs (λ i v at. idle (suc i) v at) (omega arith) in
      let h = idle 0 x refl (omega arith) in omega arith

  -- where one view has the whole of f, it has the whole of g
  pub total-whole : (views : List V) → ((i : ℕ) (v : V) → get_elem? views i ≡ some v → f v ≡ 0 → g v ≡ 0) → (i : ℕ) (v : V) → get_elem? views i ≡ some v → total f views ≡ f v → total g views ≡ g v
  total-whole [] idle i v at e = absurd (some-ne-none v (sym at))
  total-whole (x ∷ xs) idle zero v at e =
      let is : x ≡ v = some-injective x v at in
      let p : f x ≡ f v = ap f is in let q : g x ≡ g v = ap g is in
      let r = total-none xs (λ i v at. idle (suc i) v at) (omega arith) in omega arith
  total-whole (x ∷ xs) idle (suc i) v at e =
      let le = total-at f xs i v at in
      let h = idle 0 x refl (omega arith) in
      let r = total-whole xs (λ j u a. idle (suc j) u a) i v at (omega arith) in omega arith

  pub total-below : (views : List V) → ((i : ℕ) (v : V) → get_elem? views i ≡ some v → f v ≤ g v) → total f views ≤ total g views
  total-below [] each = omega arith
  total-below (x ∷ xs) each =
      let r = total-below xs (λ i v at. each (suc i) v at) in
      let h = each 0 x refl in omega arith
