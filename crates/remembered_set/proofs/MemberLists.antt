-- Membership in a list by places in it, and a list out of which a member went.
use Rattle.std.proofs.Common.{◌≡◌, ◌≢◌, ℕ, zero, suc, ◌+◌, ◌-◌, ◌<◌, ◌↔◌, inl, inr, true, false, ◌||◌, List, [], ◌∷◌, length, get_or, set, take, drop, map, refl, sym, ap, ◌∙◌, arith, ⊎_elim}
use Rattle.std.specs.Prelude.{nat_eq}
use Rattle.std.specs.List.{IsDistinct, AllByRecursion, swap_remove}
use Rattle.std.specs.List.Sorted.{IsPermutation, IsNonDecreasing, IsNonDecreasingBy}
use Rattle.std.proofs.lemmas.Bool.{or_left, or_from, eq-eqb, ne_eqb, true≢false, cases_lt, cases_eq}
use Rattle.std.proofs.lemmas.List.{get_or-map, get_or-take, get_or-drop, get_or-set_same, get_or-set_other, get_or_default, length-drop, length-take-le, length-set, length-map, map-set, take-map, take-take, take-set}
use Rattle.std.proofs.lemmas.List.Sorted.{list_any-IsPermutation}
use Rattle.std.proofs.lemmas.Map.Keys.{IsDistinct-head, IsDistinct-tail, IsDistinct-IsPermutation}
use Rattle.model.specs.Reached.{has}
use Rattle.model.proofs.Has.{has_none, has_tail, has-cons}

-- by places
pub has_at : (xs : List ℕ) (i n : ℕ) → i < length xs → get_or xs i 0 ≡ n → has xs n ≡ true
has_at [] i n h e = absurd (omega arith)
has_at (x ∷ xs) zero n h e = or_left _ _ (eq-eqb n x (sym e))
has_at (x ∷ xs) (suc i) n h e = has_tail x xs n (has_at xs i n (omega arith) e)

pub has_place : (xs : List ℕ) (n : ℕ) → has xs n ≡ true → (i : ℕ) × (i < length xs) × (get_or xs i 0 ≡ n)
has_place [] n h = has_none n h
has_place (x ∷ xs) n h =
    ⊎_elim
    (λ e. (0, omega arith, sym e))
    (λ r. let there = has_place xs n r in (suc there.0, omega (arith, there.1), there.2))
    (has-cons x xs n h)

-- one that differs from all
none_among : (x : ℕ) (ys : List ℕ) → AllByRecursion (λ y. nat_eq x y ≡ false) ys → has ys x ≡ false
none_among x [] all = refl
none_among x (y ∷ ys) all = or_from _ _ all.0 (none_among x ys all.1)

pub head_absent : (x : ℕ) (ys : List ℕ) → IsDistinct nat_eq (x ∷ ys) → has ys x ≡ false
head_absent x ys d = none_among x ys (IsDistinct-head nat_eq x ys d)

pub flips : (a b : ℕ) → nat_eq a b ≡ nat_eq b a
flips a b =
    elim (cases_eq a b) [
      | inl e ↦ eq-eqb a b e ∙ sym (eq-eqb b a (sym e))
      | inr ne ↦ ne_eqb a b ne ∙ sym (ne_eqb b a (λ e. ne (sym e)))
    ]

-- the members that are left where one went
pub record IsWithout (xs : List ℕ) (x : ℕ) (ys : List ℕ) : Type 0 where
  pub once : IsDistinct nat_eq ys
  pub gone : has ys x ≡ false
  pub others : (n : ℕ) → n ≢ x → has ys n ≡ has xs n

pub is_without : (xs : List ℕ) (x : ℕ) (ys : List ℕ) → IsDistinct nat_eq xs → IsPermutation xs (x ∷ ys) → IsWithout xs x ys
is_without xs x ys d p =
    let both : IsDistinct nat_eq (x ∷ ys) = IsDistinct-IsPermutation nat_eq (λ a b. flips a b) xs (x ∷ ys) p d in
    record {
      once = IsDistinct-tail nat_eq x ys both;
      gone = head_absent x ys both;
      others =
          λ n ne.
          let same : has xs n ≡ has (x ∷ ys) n = list_any-IsPermutation (nat_eq n) xs (x ∷ ys) p in
          sym (same ∙ ap (λ b. b || has ys n) (ne_eqb n x ne));
    }

pub without_members : (xs : List ℕ) (x : ℕ) (ys : List ℕ) → IsWithout xs x ys → (n : ℕ) → (has ys n ≡ true) ↔ ((has xs n ≡ true) × (n ≢ x))
without_members xs x ys w n = (
  λ h.
      let ne : n ≢ x = λ e. true≢false (sym h ∙ ap (has ys) e ∙ w.gone) in
      (sym (w.others n ne) ∙ h, ne),
  λ p. w.others n p.1 ∙ p.0,
)

-- a member went, and the last took its place
pub map-swap_remove : {X : Type 0} (f : X → ℕ) (xs : List X) (k : ℕ) (x : X) → k < length xs → map f (swap_remove xs k x) ≡ swap_remove (map f xs) k (f x)
map-swap_remove f xs k x h =
    let many : length (map f xs) ≡ length xs = length-map xs f in
    let last : f (get_or xs (length xs - 1) x) ≡ get_or (map f xs) (length xs - 1) (f x) = sym (get_or-map f xs (length xs - 1) x (f x) (omega arith)) in
    sym (take-map f (length xs - 1) (set xs k (get_or xs (length xs - 1) x)))
    ∙ ap (take (length xs - 1)) (map-set f xs k (get_or xs (length xs - 1) x) ∙ ap (set (map f xs) k) last)
    ∙ ap (λ n. take (n - 1) (set (map f xs) k (get_or (map f xs) (n - 1) (f x)))) (sym many)

pub take-swap_remove : (xs : List ℕ) (k x : ℕ) → k < length xs → take k (swap_remove xs k x) ≡ take k xs
take-swap_remove xs k x h =
    take-take k (length xs - 1) (set xs k (get_or xs (length xs - 1) x)) (omega arith) ∙ take-set xs k (get_or xs (length xs - 1) x)

pub rest-swap_remove : (xs : List ℕ) (k x n : ℕ) → k < length xs → has (drop k (swap_remove xs k x)) n ≡ true → has (drop (k + 1) xs) n ≡ true
rest-swap_remove xs k x n h there =
    let last : ℕ = get_or xs (length xs - 1) x in
    let ys : List ℕ = swap_remove xs k x in
    let many : length ys ≡ length xs - 1 = length-take-le (length xs - 1) (set xs k last) (omega (arith, length-set xs k last)) in
    let at = has_place (drop k ys) n there in
    let i : ℕ = at.0 in
    let within : k + i < length xs - 1 = omega (arith, at.1, length-drop k ys, many) in
    let value : get_or (set xs k last) (k + i) 0 ≡ n = sym (get_or-take (length xs - 1) (set xs k last) (k + i) 0 within) ∙ sym (get_or-drop k ys i 0) ∙ at.2 in
    elim (cases_lt 0 i) [
      | inl later ↦
          let back : k + 1 + (i - 1) ≡ k + i = omega arith in
          has_at (drop (k + 1) xs) (i - 1) n (omega (arith, length-drop (k + 1) xs)) (
          get_or-drop (k + 1) xs (i - 1) 0
          ∙ ap (λ j. get_or xs j 0) back
          ∙ sym (get_or-set_other xs k (k + i) last 0 (λ e. absurd (omega arith)))
          ∙ value
          )
      | inr first ↦
          let end : k + 1 + (length xs - 2 - k) ≡ length xs - 1 = omega arith in
          let start : k + i ≡ k = omega arith in
          has_at (drop (k + 1) xs) (length xs - 2 - k) n (omega (arith, length-drop (k + 1) xs)) (
          get_or-drop (k + 1) xs (length xs - 2 - k) 0
          ∙ ap (λ j. get_or xs j 0) end
          ∙ get_or_default xs (length xs - 1) 0 x (omega arith)
          ∙ sym (get_or-set_same xs k last 0 h)
          ∙ ap (λ j. get_or (set xs k last) j 0) (sym start)
          ∙ value
          )
    ]

-- an order that a function of the elements has is that of its values
pub map_rises : {X : Type 0} (f : X → ℕ) (xs : List X) → IsNonDecreasingBy f xs → IsNonDecreasing (map f xs)
map_rises f [] up i j d a b = absurd (omega arith)
map_rises f (x ∷ xs) up i j d a b =
    let ys = x ∷ xs in
    let many : length (map f ys) ≡ length ys = length-map ys f in
    let low : get_or (map f ys) i d ≡ f (get_or ys i x) = get_or-map f ys i x d (omega arith) in
    let high : get_or (map f ys) j d ≡ f (get_or ys j x) = get_or-map f ys j x d (omega arith) in
    rw (low, high) (up i j x a (omega arith))
