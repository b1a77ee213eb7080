-- A look-up in lists of entries, joined or within bounds.
use Rattle.std.proofs.Common.{◌≡◌, ◌≢◌, ℕ, ◌<◌, ◌≤◌, Bool, true, false, cond, List, [], ◌∷◌, ◌++◌, Option, Some, None, refl, ap, ◌∙◌, arith, sym, subst, ⊎_elim}
use Rattle.std.specs.Ordering.{nat_cmp, eq_by_cmp}
use Rattle.std.specs.FinMap.{find}
use Rattle.std.proofs.lemmas.Bool.{cases_eq}
use Rattle.std.proofs.lemmas.List.Elements.{All-head, All-tail}
use Rattle.std.specs.Prelude.{All}
use Rattle.model.proofs.NatMap.{find_other}
use Rattle.model.proofs.Options.{some_not_none}

-- the first of two answers
abbrev pub or_else : {X : Type 0} → Option X → Option X → Option X
or_else None b = b
or_else (Some x) b = Some x

module _ {X : Type 0} where
  pub find-append : (q : ℕ) (xs ys : List (ℕ × X)) → find nat_cmp q (xs ++ ys) ≡ or_else (find nat_cmp q xs) (find nat_cmp q ys)
  find-append q [] ys = refl
  find-append q (e ∷ xs) ys = go (eq_by_cmp nat_cmp q e.0) (find-append q xs ys)
    where
      go : (b : Bool) → find nat_cmp q (xs ++ ys) ≡ or_else (find nat_cmp q xs) (find nat_cmp q ys) → cond b (Some e.1) (find nat_cmp q (xs ++ ys)) ≡ or_else (cond b (Some e.1) (find nat_cmp q xs)) (find nat_cmp q ys)
      go true rest = refl
      go false rest = rest

  -- every key is at least low and below high
  abbrev pub KeysWithin : ℕ → ℕ → List (ℕ × X) → Type 0
  KeysWithin low high [] = Unit {0}
  KeysWithin low high (e ∷ es) = (low ≤ e.0) × (e.0 < high) × KeysWithin low high es

  pub find_below : (q low high : ℕ) (es : List (ℕ × X)) → KeysWithin low high es → q < low → find nat_cmp q es ≡ None
  find_below q low high [] h lt = refl
  find_below q low high (e ∷ es) h lt =
      let ne : q ≢ e.0 = λ x. absurd (omega (arith, h.0)) in
      find_other q e.0 e.1 es ne ∙ find_below q low high es h.2 lt

  pub find_above : (q low high : ℕ) (es : List (ℕ × X)) → KeysWithin low high es → high ≤ q → find nat_cmp q es ≡ None
  find_above q low high [] h le = refl
  find_above q low high (e ∷ es) h le =
      let ne : q ≢ e.0 = λ x. absurd (omega (arith, h.1)) in
      find_other q e.0 e.1 es ne ∙ find_above q low high es h.2 le

  pub KeysWithin-weaken : (low low' high high' : ℕ) (es : List (ℕ × X)) → low' ≤ low → high ≤ high' → KeysWithin low high es → KeysWithin low' high' es
  KeysWithin-weaken low low' high high' [] a b h = tt
  KeysWithin-weaken low low' high high' (e ∷ es) a b h = (omega (arith, h.0), omega (arith, h.1), KeysWithin-weaken low low' high high' es a b h.2)

  pub find_in_first : (q : ℕ) (xs ys : List (ℕ × X)) → find nat_cmp q ys ≡ None → find nat_cmp q (xs ++ ys) ≡ find nat_cmp q xs
  find_in_first q xs ys none = find-append q xs ys ∙ go (find nat_cmp q xs)
    where
      go : (o : Option X) → or_else o (find nat_cmp q ys) ≡ o
      go None = none
      go (Some x) = refl

  pub find_in_second : (q : ℕ) (xs ys : List (ℕ × X)) → find nat_cmp q xs ≡ None → find nat_cmp q (xs ++ ys) ≡ find nat_cmp q ys
  find_in_second q xs ys none = find-append q xs ys ∙ ap (λ o. or_else o (find nat_cmp q ys)) none

-- what holds of each number that was won holds of one that is found
pub find_all : (P : ℕ → Type 0) (won : List (ℕ × ℕ)) (n p : ℕ) → All (λ e. P e.0) won → find nat_cmp n won ≡ Some p → P n
find_all P [] n p h is = absurd (some_not_none (sym is))
find_all P (e ∷ won) n p h is =
    ⊎_elim
    (λ same. subst P (sym same) (All-head (λ x. P x.0) e won h))
    (λ ne. find_all P won n p (All-tail (λ x. P x.0) e won h) (sym (find_other n e.0 e.1 won ne) ∙ is))
    (cases_eq n e.0)
