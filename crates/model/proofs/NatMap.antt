-- `FinMap` at numbers: what a changed map holds, and when two maps are equal.
use Rattle.std.proofs.Common.{◌≡◌, ◌≢◌, ℕ, List, ◌∷◌, Some, None, refl, ◌∙◌}
use Rattle.std.proofs.lemmas.Bool.{eq-eqb, ne_eqb, cond-true, cond-false}
use Rattle.std.specs.Ordering.{nat_cmp}
use Rattle.std.specs.Cmp.{nat_cmp_total, unsigned_tied}
use Rattle.std.specs.FinMap.{FinMap, get, insert, remove, find, same_map, get-insert, get-remove, nat_cmp-IsAntisymmetric}

module _ {X : Type 0} where
  pub get-insert_same : (m : FinMap nat_cmp X) (k : ℕ) (v : X) → get (insert m k v) k ≡ Some v
  get-insert_same m k v = get-insert nat_cmp_total m k v k ∙ cond-true _ _ _ (unsigned_tied k k ∙ eq-eqb k k refl)

  pub get-insert_other : (m : FinMap nat_cmp X) (k : ℕ) (v : X) (q : ℕ) → q ≢ k → get (insert m k v) q ≡ get m q
  get-insert_other m k v q ne = get-insert nat_cmp_total m k v q ∙ cond-false _ _ _ (unsigned_tied q k ∙ ne_eqb q k ne)

  pub get-remove_same : (m : FinMap nat_cmp X) (k : ℕ) → get (remove m k) k ≡ None
  get-remove_same m k = get-remove nat_cmp_total m k k ∙ cond-true _ _ _ (unsigned_tied k k ∙ eq-eqb k k refl)

  pub get-remove_other : (m : FinMap nat_cmp X) (k q : ℕ) → q ≢ k → get (remove m k) q ≡ get m q
  get-remove_other m k q ne = get-remove nat_cmp_total m k q ∙ cond-false _ _ _ (unsigned_tied q k ∙ ne_eqb q k ne)

  pub same_nat_map : (m n : FinMap nat_cmp X) → ((q : ℕ) → get m q ≡ get n q) → m ≡ n
  same_nat_map = same_map nat_cmp_total nat_cmp-IsAntisymmetric

  pub find_same : (k : ℕ) (v : X) (es : List (ℕ × X)) → find nat_cmp k ((k, v) ∷ es) ≡ Some v
  find_same k v es = cond-true _ _ _ (unsigned_tied k k ∙ eq-eqb k k refl)

  pub find_other : (q k : ℕ) (v : X) (es : List (ℕ × X)) → q ≢ k → find nat_cmp q ((k, v) ∷ es) ≡ find nat_cmp q es
  find_other q k v es ne = cond-false _ _ _ (unsigned_tied q k ∙ ne_eqb q k ne)
