-- Where a name first stands in an order.
use Rattle.std.proofs.Common.{◌≡◌, ℕ, suc, ◌+◌, Bool, true, false, cond, ◌||◌, List, [], ◌∷◌, ◌++◌, length, Some, None, refl, sym, ap, ◌∙◌, arith}
use Rattle.std.proofs.lemmas.Bool.{true≢false}
use Rattle.std.proofs.lemmas.Iterator.Adapters.{position_from-zero}
use Rattle.std.specs.Prelude.{is_some, position}
use Rattle.std.specs.List.{position_from, list_any}

module _ {X : Type 0} (p : X → Bool) where
  from_other : (i : ℕ) (xs : List X) (y : X) → p y ≡ false → position_from p i (xs ++ y ∷ []) ≡ position_from p i xs
  from_other i [] y e = ap (λ b. cond b (Some i) None) e
  from_other i (x ∷ xs) y e = ap (λ r. cond (p x) (Some i) r) (from_other (i + 1) xs y e)

  from_here : (i : ℕ) (xs : List X) (y : X) → list_any p xs ≡ false → p y ≡ true → position_from p i (xs ++ y ∷ []) ≡ Some (i + length xs)
  from_here i [] y none e = ap (λ b. cond b (Some i) None) e ∙ ap Some (omega arith)
  from_here i (x ∷ xs) y none e = go (p x) none (from_here (i + 1) xs y)
    where
      go : (b : Bool) → (b || list_any p xs) ≡ false → (list_any p xs ≡ false → p y ≡ true → position_from p (i + 1) (xs ++ y ∷ []) ≡ Some (i + 1 + length xs)) → cond b (Some i) (position_from p (i + 1) (xs ++ y ∷ [])) ≡ Some (i + suc (length xs))
      go true n rest = absurd (true≢false n)
      go false n rest = rest n e ∙ ap Some (omega arith)

  from_is_some : (i : ℕ) (xs : List X) → is_some (position_from p i xs) ≡ list_any p xs
  from_is_some i [] = refl
  from_is_some i (x ∷ xs) = go (p x) (from_is_some (i + 1) xs)
    where
      go : (b : Bool) → is_some (position_from p (i + 1) xs) ≡ list_any p xs → is_some (cond b (Some i) (position_from p (i + 1) xs)) ≡ (b || list_any p xs)
      go true rest = refl
      go false rest = rest

  pub position-push_other : (xs : List X) (y : X) → p y ≡ false → position p (xs ++ y ∷ []) ≡ position p xs
  position-push_other xs y e = position_from-zero p (xs ++ y ∷ []) ∙ from_other 0 xs y e ∙ sym (position_from-zero p xs)

  pub position-push_here : (xs : List X) (y : X) → list_any p xs ≡ false → p y ≡ true → position p (xs ++ y ∷ []) ≡ Some (length xs)
  position-push_here xs y none e = position_from-zero p (xs ++ y ∷ []) ∙ from_here 0 xs y none e ∙ ap Some (omega arith)

  pub position-is_some : (xs : List X) → is_some (position p xs) ≡ list_any p xs
  position-is_some xs = ap is_some (position_from-zero p xs) ∙ from_is_some 0 xs

  pub position_none : position p [] ≡ None
  position_none = refl
