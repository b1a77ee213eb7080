-- The lowest numbers of a rising list, and the others.
use Rattle.std.proofs.Common.{◌≡◌, ℕ, zero, suc, ◌+◌, ◌<◌, ◌⊎◌, ◌↔◌, inl, inr, List, ◌∷◌, [], ◌++◌, length, get_or, take, drop, sym, ap, subst, ◌∙◌, arith}
use Rattle.std.specs.List.{Contains, All}
use Rattle.std.specs.List.Sorted.{IsStrictlyIncreasing}
use Rattle.std.proofs.lemmas.Bool.{cases_lt}
use Rattle.std.proofs.lemmas.List.{get_or_default, length-take, length-drop, get_or-take, get_or-drop}
use Rattle.std.proofs.lemmas.List.Elements.{Contains-append_left, Contains-append_right, Contains-append_cases}

-- one more of a list taken
pub take-drop_next : {X : Type 0} (xs : List X) (i : ℕ) (y : X) (ys : List X) → drop i xs ≡ y ∷ ys → (take (i + 1) xs ≡ take i xs ++ y ∷ []) × (drop (i + 1) xs ≡ ys)
take-drop_next [] zero y ys e = cc
take-drop_next [] (suc i) y ys e = cc
take-drop_next (x ∷ xs) zero y ys e = (cc, cc)
take-drop_next (x ∷ xs) (suc i) y ys e =
    let rest = take-drop_next xs i y ys e in
    let same : suc i + 1 ≡ suc (i + 1) = omega arith in
    (rw same (ap (λ l. x ∷ l) rest.0), rw same rest.1)

-- what was granted and what is left
pub contains-split : (xs ys free : List ℕ) (n : ℕ) → xs ++ ys ≡ free → Contains free n ↔ (Contains xs n ⊎ Contains ys n)
contains-split xs ys free n e =
    let P : List ℕ → Type 0 = λ l. Contains l n ↔ (Contains xs n ⊎ Contains ys n) in
    subst P e (
      Contains-append_cases xs ys n,
      λ either. elim either [ inl c ↦ Contains-append_left xs ys n c | inr c ↦ Contains-append_right xs ys n c ],
    )

rising-pairs : (xs : List ℕ) (j k : ℕ) → IsStrictlyIncreasing xs → j < k → k < length xs → get_or xs j 0 < get_or xs k 0
rising-pairs xs j zero up h l = absurd (omega arith)
rising-pairs xs j (suc k) up h l =
    let same : k + 1 ≡ suc k = omega arith in
    let P : ℕ → Type 0 = λ m. get_or xs k 0 < get_or xs m 0 in
    let step : get_or xs k 0 < get_or xs (suc k) 0 = subst P same (up k (omega arith)) in
    elim (cases_lt j k) [
      | inl below ↦ let rest : get_or xs j 0 < get_or xs k 0 = rising-pairs xs j k up below (omega arith) in omega arith
      | inr above ↦ let same : j ≡ k = omega arith in rw same step
    ]

pub granted-apart : (free : List ℕ) (i n : ℕ) → IsStrictlyIncreasing free → Contains (take i free) n → Contains (drop i free) n → ⊥
granted-apart free i n up (j, h, e) (k, l, f) =
    let in_front : j < i = omega (arith, length-take i free) in
    let in_all : i + k < length free = omega (arith, length-drop i free) in
    let first : get_or free j 0 ≡ n = get_or_default free j 0 n (omega arith) ∙ sym (get_or-take i free j n in_front) ∙ e in
    let second : get_or free (i + k) 0 ≡ n = get_or_default free (i + k) 0 n in_all ∙ sym (get_or-drop i free k n) ∙ f in
    let less : get_or free j 0 < get_or free (i + k) 0 = rising-pairs free j (i + k) up (omega arith) in_all in
    omega arith

pub granted-rises : (free : List ℕ) (i : ℕ) → IsStrictlyIncreasing free → IsStrictlyIncreasing (take i free)
granted-rises free i up k h =
    let short : k + 1 < i = omega (arith, length-take i free) in
    let long : k + 1 < length free = omega (arith, length-take i free) in
    rw (get_or-take i free k 0 (omega arith), get_or-take i free (k + 1) 0 short) (up k long)

pub granted-in_limit : (free : List ℕ) (i limit : ℕ) → All (λ n. n < limit) free → All (λ n. n < limit) (take i free)
granted-in_limit free i limit all k d h =
    let short : k < i = omega (arith, length-take i free) in
    rw (get_or-take i free k d short) (all k d (omega (arith, length-take i free)))
