-- Steps of loops over the table of blocks.
use Rattle.std.proofs.Common.{◌≡◌, ◌≢◌, ℕ, zero, suc, ◌+◌, ◌-◌, ◌<◌, ◌≤◌, List, [], ◌∷◌, ◌++◌, length, take, drop, take_all, set, get_or, Option, Some, None, refl, sym, ap, subst, ◌∙◌, arith, get_or-set_other, get_or-set_same, below_more}
use Rattle.std.proofs.lemmas.List.{get_or_append_left, get_or-drop, length-drop, length-take, drop_all, append-nil}

pub get_or_any : {X : Type 0} (xs : List X) (i : ℕ) (d e : X) → i < length xs → get_or xs i d ≡ get_or xs i e
get_or_any [] i d e lt = absurd (omega arith)
get_or_any (x ∷ xs) zero d e lt = refl
get_or_any (x ∷ xs) (suc i) d e lt = get_or_any xs i d e (omega arith)

pub get_or_end : {X : Type 0} (xs : List X) (i : ℕ) (d : X) → length xs ≤ i → get_or xs i d ≡ d
get_or_end [] i d le = refl
get_or_end (x ∷ xs) zero d le = absurd (omega arith)
get_or_end (x ∷ xs) (suc i) d le = get_or_end xs i d (omega arith)

-- a place that holds something is in the list
pub in_list : {X : Type 0} (xs : List (Option X)) (i : ℕ) (x : X) → get_or xs i None ≡ Some x → i < length xs
in_list [] i x e = absurd (cc)
in_list (y ∷ xs) zero x e = omega arith
in_list (y ∷ xs) (suc i) x e = let rest : i < length xs = in_list xs i x e in omega arith

module _ {X : Type 0} (f : Option X → Option X) (old now : List (Option X)) (i : ℕ) (x : Option X) (lt : i < length now) where
  pub clear_first : ((n : ℕ) → n < i → get_or now n None ≡ f (get_or old n None)) → ((n : ℕ) → i ≤ n → get_or now n None ≡ get_or old n None) → x ≡ f (get_or now i None) → (n : ℕ) → n < i + 1 → get_or (set now i x) n None ≡ f (get_or old n None)
  clear_first first others is =
      below_more _ _
      (λ k h. let ne : k ≢ i = omega arith in get_or-set_other now i k x None ne ∙ first k h)
      (get_or-set_same now i x None lt ∙ is ∙ ap f (others i (omega arith)))

  pub clear_others : ((n : ℕ) → i ≤ n → get_or now n None ≡ get_or old n None) → (n : ℕ) → i + 1 ≤ n → get_or (set now i x) n None ≡ get_or old n None
  clear_others others n le = let ne : n ≢ i = omega arith in get_or-set_other now i n x None ne ∙ others n (omega arith)

-- a list with one more at its end
pub push_each : {X : Type 0} (P : ℕ → X → Type 0) (xs : List X) (x d : X) → ((n : ℕ) → n < length xs → P n (get_or xs n d)) → P (length xs) x → (n : ℕ) → n < length xs + 1 → P n (get_or (xs ++ x ∷ []) n d)
push_each {X = X} P xs x d each last = below_more (λ n. P n (get_or (xs ++ x ∷ []) n d)) (length xs)
    (λ n lt. subst (P n) (sym (get_or_append_left xs (x ∷ []) d n lt)) (each n lt))
    (subst (P (length xs)) (sym (at_end xs)) last)
  where
    at_end : (ys : List X) → get_or (ys ++ x ∷ []) (length ys) d ≡ x
    at_end [] = refl
    at_end (y ∷ ys) = at_end ys

-- all of a vector's elements written at once
pub with_whole : {X : Type 0} (n : ℕ) (new old : List X) → length new ≡ n → length old ≡ n → take n (new ++ drop (length new) old) ≡ new
with_whole n new old a b =
    let none : drop (length new) old ≡ [] = drop_all (length new) old (omega arith) in
    ap (λ xs. take n (new ++ xs)) none ∙ ap (take n) (append-nil new) ∙ take_all n new (omega arith)

-- an element of a list's part from a number on
module _ {X : Type 0} (xs : List X) (from i : ℕ) (lt : i < length (take (length xs - from) (drop from xs))) where
  pub part_inside : from + i < length xs
  part_inside = omega (arith, lt, length-take (length xs - from) (drop from xs))

  pub part_at : (x d : X) → x ≡ get_or (take (length xs - from) (drop from xs)) i x → get_or xs (from + i) d ≡ x
  part_at x d is =
      let whole : take (length xs - from) (drop from xs) ≡ drop from xs = take_all (length xs - from) (drop from xs) (omega (arith, length-drop from xs)) in
      get_or_any xs (from + i) d x part_inside ∙ sym (get_or-drop from xs i x) ∙ ap (λ ys. get_or ys i x) (sym whole) ∙ sym is
