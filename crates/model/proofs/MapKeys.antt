-- The keys of a map with numbers as keys.
use Rattle.std.proofs.Common.{◌≡◌, ℕ, true, List, [], ◌∷◌, refl, sym, ◌∙◌}
use Rattle.std.specs.Prelude.{IsSome}
use Rattle.std.specs.List.{list_any}
use Rattle.std.specs.Ordering.{nat_cmp, eq_by_cmp}
use Rattle.std.specs.Cmp.{unsigned_tied}
use Rattle.std.specs.FinMap.{FinMap, get, keys, contains_key-keys}
use Rattle.model.specs.Reached.{has}

-- a key of the map has a value
any-tied : (q : ℕ) (xs : List ℕ) → list_any (eq_by_cmp nat_cmp q) xs ≡ has xs q
any-tied q [] = refl
any-tied q (x ∷ xs) = rw (unsigned_tied q x, any-tied q xs) refl

pub has_key : {X : Type 0} (m : FinMap nat_cmp X) (q : ℕ) → has (keys m) q ≡ true → IsSome (get m q)
has_key m q h = contains_key-keys m q ∙ any-tied q (keys m) ∙ h

pub key_has : {X : Type 0} (m : FinMap nat_cmp X) (q : ℕ) → IsSome (get m q) → has (keys m) q ≡ true
key_has m q h = sym (any-tied q (keys m)) ∙ sym (contains_key-keys m q) ∙ h
