-- Distinct lists of numbers with the same members are the same up to order, so sums and counts agree.
use Rattle.std.proofs.Common.{◌≡◌, ◌≢◌, ℕ, zero, suc, ◌+◌, ◌≤◌, Bool, true, false, ◌||◌, cond, List, [], ◌∷◌, ◌++◌, map, length, refl, sym, ap, subst, ◌∙◌, arith, ⊎_elim}
use Rattle.std.proofs.lemmas.Bool.{ne_eqb, true≢false, cases_eq}
use Rattle.std.proofs.lemmas.List.Sorted.{IsPermutation-refl, IsPermutation-cons, IsPermutation-middle, IsPermutation-sym, IsPermutation-trans, list_any-IsPermutation, sum_by-IsPermutation, length_permutation}
use Rattle.std.proofs.lemmas.List.Sums.{length-filter}
use Rattle.std.proofs.lemmas.Map.Keys.{IsDistinct-IsPermutation, IsDistinct-head, IsDistinct-tail, IsDistinct-cons}
use Rattle.std.specs.Prelude.{nat_eq, filter, count_by, sum_by}
use Rattle.std.specs.List.{IsDistinct, AllByRecursion}
use Rattle.std.specs.List.Sorted.{IsPermutation}
use Rattle.model.specs.Reached.{has}
use Rattle.model.specs.Destination.{numbers_from}
use Rattle.model.proofs.Has.{has_none, has_head, has_tail, has-cons, has_splits, has_map_of, has_numbers_from, has_filter_from}

-- each member of the one is a member of the other
pub record SameMembers (xs ys : List ℕ) : Type 0 where
  pub there : (q : ℕ) → has xs q ≡ true → has ys q ≡ true
  pub back : (q : ℕ) → has ys q ≡ true → has xs q ≡ true

-- a number that differs from each is no member
pub absent_from_apart : (x : ℕ) (xs : List ℕ) → AllByRecursion (λ y. nat_eq x y ≡ false) xs → has xs x ≡ false
absent_from_apart x [] h = refl
absent_from_apart x (y ∷ xs) h = ap (λ b. b || has xs x) h.0 ∙ absent_from_apart x xs h.1

pub apart_from_absent : (x : ℕ) (xs : List ℕ) → ((y : ℕ) → has xs y ≡ true → x ≢ y) → AllByRecursion (λ y. nat_eq x y ≡ false) xs
apart_from_absent x [] h = tt
apart_from_absent x (y ∷ xs) h = (ne_eqb x y (h y (has_head y xs)), apart_from_absent x xs (λ z k. h z (has_tail y xs z k)))

pub distinct_absent : (x : ℕ) (xs : List ℕ) → IsDistinct nat_eq (x ∷ xs) → has xs x ≡ false
distinct_absent x xs d = absent_from_apart x xs (IsDistinct-head nat_eq x xs d)

flips : (x y : ℕ) → nat_eq x y ≡ nat_eq y x
flips x y = ⊎_elim (λ e. rw e refl) (λ ne. ne_eqb x y ne ∙ sym (ne_eqb y x (λ e. ne (sym e)))) (cases_eq x y)

pub same_permutation : (xs ys : List ℕ) → IsDistinct nat_eq xs → IsDistinct nat_eq ys → SameMembers xs ys → IsPermutation xs ys
same_permutation [] [] d e s = IsPermutation-refl []
same_permutation [] (y ∷ ys) d e s = has_none y (s.back y (has_head y ys))
same_permutation (x ∷ xs) ys d e s =
    let split = has_splits ys x (s.there x (has_head x xs)) in
    let rest : List ℕ = split.before ++ split.after in
    let moved : IsPermutation ys (x ∷ rest) = subst (λ zs. IsPermutation zs (x ∷ rest)) (sym split.whole) (IsPermutation-middle split.before x split.after) in
    let distinct : IsDistinct nat_eq (x ∷ rest) = IsDistinct-IsPermutation nat_eq flips ys (x ∷ rest) moved e in
    let at : (q : ℕ) → has ys q ≡ has (x ∷ rest) q = λ q. list_any-IsPermutation (nat_eq q) ys (x ∷ rest) moved in
    let same : SameMembers xs rest = record {
      there = λ q h. ⊎_elim
          (λ e. absurd (true≢false (sym (subst (λ y. has xs y ≡ true) e h) ∙ distinct_absent x xs d)))
          (λ r. r)
          (has-cons x rest q (sym (at q) ∙ s.there q (has_tail x xs q h)));
      back = λ q h. ⊎_elim
          (λ e. absurd (true≢false (sym (subst (λ y. has rest y ≡ true) e h) ∙ distinct_absent x rest distinct)))
          (λ r. r)
          (has-cons x xs q (s.back q (at q ∙ has_tail x rest q h)));
    } in
    IsPermutation-trans (x ∷ xs) (x ∷ rest) ys
    (IsPermutation-cons x xs rest (same_permutation xs rest (IsDistinct-tail nat_eq x xs d) (IsDistinct-tail nat_eq x rest distinct) same))
    (IsPermutation-sym ys (x ∷ rest) moved)

module _ (xs ys : List ℕ) (d : IsDistinct nat_eq xs) (e : IsDistinct nat_eq ys) (same : SameMembers xs ys) where
  pub same_sum_by : (f : ℕ → ℕ) → sum_by f xs ≡ sum_by f ys
  same_sum_by f = sym (sum_by-IsPermutation f xs ys (same_permutation xs ys d e same))

  pub same_count_by : (p : ℕ → Bool) → count_by p xs ≡ count_by p ys
  same_count_by p = same_sum_by (λ x. cond (p x) 1 0)

  pub same_length : length xs ≡ length ys
  same_length = sym (length_permutation xs ys (same_permutation xs ys d e same))

  pub same_length_filter : (p : ℕ → Bool) → length (filter p xs) ≡ length (filter p ys)
  same_length_filter p = length-filter p xs ∙ same_count_by p ∙ sym (length-filter p ys)

-- the image under a function that is one to one on the list
pub IsDistinct-map : (f : ℕ → ℕ) (xs : List ℕ) → ((a b : ℕ) → has xs a ≡ true → has xs b ≡ true → f a ≡ f b → a ≡ b) → IsDistinct nat_eq xs → IsDistinct nat_eq (map f xs)
unfolding IsDistinct
IsDistinct-map f [] one d = tt
IsDistinct-map f (x ∷ xs) one d =
    IsDistinct-cons nat_eq (f x) (map f xs)
    (apart_from_absent (f x) (map f xs) (λ y h e.
    let from = has_map_of f xs y h in
    let same : x ≡ from.0 = one x from.0 (has_head x xs) (has_tail x xs from.0 from.1) (e ∙ sym from.2) in
    true≢false (sym (subst (λ z. has xs z ≡ true) (sym same) from.1) ∙ distinct_absent x xs (IsDistinct-cons nat_eq x xs d.0 d.1))))
    (IsDistinct-map f xs (λ a b h k. one a b (has_tail x xs a h) (has_tail x xs b k)) d.1)

pub IsDistinct-filter : (p : ℕ → Bool) (xs : List ℕ) → IsDistinct nat_eq xs → IsDistinct nat_eq (filter p xs)
unfolding IsDistinct
IsDistinct-filter p [] d = tt
IsDistinct-filter p (x ∷ xs) d = go (p x) (IsDistinct-filter p xs d.1)
  where
    go : (b : Bool) → IsDistinct nat_eq (filter p xs) → IsDistinct nat_eq (cond b (x ∷ filter p xs) (filter p xs))
    go true rest =
        IsDistinct-cons nat_eq x (filter p xs)
        (apart_from_absent x (filter p xs) (λ y h e. true≢false (sym (subst (λ z. has xs z ≡ true) (sym e) (has_filter_from p xs y h).0) ∙ absent_from_apart x xs d.0)))
        rest
    go false rest = rest

pub IsDistinct-append : (xs ys : List ℕ) → IsDistinct nat_eq xs → IsDistinct nat_eq ys → ((q : ℕ) → has xs q ≡ true → has ys q ≡ false) → IsDistinct nat_eq (xs ++ ys)
unfolding IsDistinct
IsDistinct-append [] ys d e apart = e
IsDistinct-append (x ∷ xs) ys d e apart =
    (joined xs d.0, IsDistinct-append xs ys d.1 e (λ q h. apart q (has_tail x xs q h)))
  where
    others : (zs : List ℕ) → has zs x ≡ false → AllByRecursion (λ y. nat_eq x y ≡ false) zs
    others zs h = apart_from_absent x zs (λ y k e. true≢false (sym k ∙ subst (λ z. has zs z ≡ false) e h))

    joined : (zs : List ℕ) → AllByRecursion (λ y. nat_eq x y ≡ false) zs → AllByRecursion (λ y. nat_eq x y ≡ false) (zs ++ ys)
    joined [] a = others ys (apart x (has_head x xs))
    joined (z ∷ zs) a = (a.0, joined zs a.1)

pub IsDistinct-numbers_from : (i n : ℕ) → IsDistinct nat_eq (numbers_from i n)
unfolding IsDistinct
IsDistinct-numbers_from i zero = tt
IsDistinct-numbers_from i (suc n) =
    (apart_from_absent i (numbers_from (i + 1) n) (λ y h e. let low : i + 1 ≤ y = (has_numbers_from (i + 1) n y h).0 in absurd (omega arith)), IsDistinct-numbers_from (i + 1) n)
