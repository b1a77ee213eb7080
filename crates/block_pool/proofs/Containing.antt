-- Membership in a list with a first element.
use Rattle.std.proofs.Common.{◌≡◌, zero, suc, ◌⊎◌, inl, inr, List, ◌∷◌, refl, arith}
use Rattle.std.specs.List.{Contains}

pub Contains-first : {X : Type 0} (x : X) (xs : List X) → Contains (x ∷ xs) x
Contains-first x xs = (0, omega arith, refl)

pub Contains-later : {X : Type 0} (y x : X) (xs : List X) → Contains xs x → Contains (y ∷ xs) x
Contains-later y x xs (k, h, e) = (suc k, omega arith, e)

pub Contains-cons_cases : {X : Type 0} (y x : X) (xs : List X) → Contains (y ∷ xs) x → (y ≡ x) ⊎ Contains xs x
Contains-cons_cases y x xs (zero, h, e) = inl e
Contains-cons_cases y x xs (suc k, h, e) = inr (k, omega arith, e)
