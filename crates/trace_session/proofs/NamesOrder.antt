-- The names in use, gone through and put in order.
use Rattle.std.proofs.Common.{◌≡◌, ℕ, ◌+◌, true, false, IsTrue, List, [], ◌∷◌, ◌++◌, map, T, refl, sym, ap, subst, ◌∙◌, append_assoc, append-nil, Vec}
use Rattle.std.specs.declared.cmp.Ordering.TheVariants.{Less, Equal, Greater}
use Rattle.std.specs.Ordering.{nat_cmp, is_lt, is_eq, ordering_reverse}
use Rattle.std.specs.Cmp.Lexicographic.{slice_cmp, nat_list_cmp_total}
use Rattle.std.specs.List.{IsDistinct, AllByRecursion}
use Rattle.std.specs.List.Sorted.{IsPermutation, IsSortedBy, IsStrictlySortedBy}
use Rattle.std.specs.Map.{keys_of}
use Rattle.std.specs.FinMap.{is_sorted}
use native.Mathlib.Omega.{arith}
use Rattle.std.proofs.Math.ListN.{get_or}
use Rattle.std.proofs.lemmas.List.{map-append, length-map, get_or-map}
use Rattle.std.proofs.lemmas.List.Sorted.{IsPermutation-map, IsPermutation-sym}
use Rattle.std.proofs.lemmas.Map.Keys.{sorted_from_all_adjacent, apart_from_distinct}
use Rattle.std.proofs.lemmas.Bool.{and_from}
use Rattle.steps.specs.declared.heap_values.root_id.RootId.{RootId}
use Rattle.heap_text.specs.declared.listing.Name.{Name}
use Rattle.heap_text.specs.HeapLines.{name_value}
use Rattle.trace_session.specs.NamesView.{name_entry, in_order}
use Rattle.trace_session.proofs.NamedLemmas.{same, is_true}
use Rattle.trace_session.proofs.NameLists.{all_after}
use Rattle.trace_session.proofs.InOrder.{the_order, moved-in_order, find-lookup, rises-in_order}
use Rattle.trace_session.proofs.NamesLemmas.{AreApart, distinct_named, keys_moved}

-- one more name is listed, and the others are left
pub name_listed : {X Y : Type 0} (shown : X → List ℕ × ℕ) (entry : Y → List ℕ × ℕ) (list list' : List X) (x : X) (e : Y) (left left' : List Y) (all : List (List ℕ × ℕ)) → list' ≡ list ++ x ∷ [] → shown x ≡ entry e → left ≡ e ∷ left' → map shown list ++ map entry left ≡ all → map shown list' ++ map entry left' ≡ all
name_listed shown entry list list' x e left left' all pushed same taken before =
    ap (λ xs. map shown xs ++ map entry left') pushed
    ∙ ap (λ ys. ys ++ map entry left') (map-append shown list (x ∷ []))
    ∙ append_assoc (map shown list) (shown x ∷ []) (map entry left')
    ∙ ap (λ y. map shown list ++ y ∷ map entry left') same
    ∙ sym (ap (λ ys. map shown list ++ map entry ys) taken)
    ∙ before

-- no name is left
pub all_listed : {X Y : Type 0} (shown : X → List ℕ × ℕ) (entry : Y → List ℕ × ℕ) (list : List X) (left : List Y) (all : List (List ℕ × ℕ)) → left ≡ [] → map shown list ++ map entry left ≡ all → map shown list ≡ all
all_listed shown entry list left all none before = sym (ap (λ ys. map shown list ++ map entry ys) none ∙ append-nil (map shown list)) ∙ before

less_of : (a b : List ℕ) → is_lt (slice_cmp nat_cmp b a) ≡ false → same a b ≡ false → slice_cmp nat_cmp a b ≡ Less
less_of a b not_less apart =
    elim (slice_cmp nat_cmp a b) as (λ o. slice_cmp nat_cmp a b ≡ o → o ≡ Less) [
      | Less ↦ λ _. refl
      | Equal ↦ λ is. let both : true ≡ false = sym (ap is_eq is) ∙ apart in cc
      | Greater ↦ λ is.
          let turned : slice_cmp nat_cmp b a ≡ Less = nat_list_cmp_total.antisymm b a ∙ ap ordering_reverse is in
          let both : true ≡ false = sym (ap is_lt turned) ∙ not_less in
          cc
    ] refl

names_after : (text : List ℕ) (es : List (List ℕ × ℕ)) → AllByRecursion (λ t. slice_cmp nat_cmp text t ≡ Less) (keys_of es) → all_after text es ≡ true
names_after text [] h = refl
names_after text (e ∷ es) h = and_from _ _ (ap is_lt h.0) (names_after text es h.1)

-- keys that rise make names that rise
names_rise : (es : List (List ℕ × ℕ)) → IsStrictlySortedBy (slice_cmp nat_cmp) (keys_of es) → is_sorted (slice_cmp nat_cmp) es ≡ true
unfolding IsStrictlySortedBy
names_rise [] h = refl
names_rise (e ∷ es) h = and_from _ _ (names_after e.0 es h.0) (names_rise es h.1)

abbrev text_of : Name → List ℕ
text_of name = name.text.now

-- names that ascend and differ rise
sorted_rise : (ys : List Name) → IsSortedBy (λ x y. is_lt (slice_cmp nat_cmp x.text.now y.text.now)) ys → IsDistinct same (map text_of ys) → IsStrictlySortedBy (slice_cmp nat_cmp) (map text_of ys)
sorted_rise [] up d = sorted_from_all_adjacent nat_list_cmp_total [] [] (λ k l. absurd (omega arith))
sorted_rise (y ∷ ys) up d =
    sorted_from_all_adjacent nat_list_cmp_total (map text_of (y ∷ ys)) (text_of y)
    (λ k l.
    let long = length-map (y ∷ ys) text_of in
    let a = get_or-map text_of (y ∷ ys) k y (text_of y) (omega arith) in
    let b = get_or-map text_of (y ∷ ys) (k + 1) y (text_of y) (omega arith) in
    less_of (get_or (map text_of (y ∷ ys)) k (text_of y)) (get_or (map text_of (y ∷ ys)) (k + 1) (text_of y))
    (ap (λ s. is_lt (slice_cmp nat_cmp s (get_or (map text_of (y ∷ ys)) k (text_of y)))) b
    ∙ ap (λ s. is_lt (slice_cmp nat_cmp (text_of (get_or (y ∷ ys) (k + 1) y)) s)) a
    ∙ up k y (omega arith) (omega arith))
    (apart_from_distinct same (map text_of (y ∷ ys)) k (k + 1) (text_of y) d (omega arith) l))

keys_are : (ys : List Name) → keys_of (map name_value ys) ≡ map text_of ys
keys_are [] = refl
keys_are (y ∷ ys) = ap (λ l. y.text.now ∷ l) (keys_are ys)

-- what was listed, put in order by text
pub listed_in_order : {A : Type 0} (es : List (Vec ℕ A × RootId)) (xs ys : List Name) → map name_value xs ≡ map name_entry es → IsPermutation xs ys → IsSortedBy (λ x y. is_lt (slice_cmp nat_cmp x.text.now y.text.now)) ys → AreApart es → map name_value ys ≡ in_order (map name_entry es)
listed_in_order es xs ys listed moved up apart =
    let m = IsPermutation-map name_value xs ys moved in
    let c : IsDistinct same (keys_of (map name_value xs)) = subst (λ l. IsDistinct same (keys_of l)) (sym listed) (distinct_named es apart) in
    let d = keys_moved (map name_value ys) (map name_value xs) (IsPermutation-sym (map name_value xs) (map name_value ys) m) c in
    let rises = names_rise (map name_value ys) (subst (IsStrictlySortedBy (slice_cmp nat_cmp)) (sym (keys_are ys)) (sorted_rise ys up (subst (IsDistinct same) (keys_are ys) d))) in
    sym (the_order (map name_value ys) (map name_value ys) (subst T (sym rises) tt) (λ q. sym (find-lookup (map name_value ys) q)))
    ∙ sym (moved-in_order (map name_value xs) (map name_value ys) m c d)
    ∙ ap in_order listed

pub in_order_rises : {A : Type 0} (es : List (Vec ℕ A × RootId)) → IsTrue (is_sorted (slice_cmp nat_cmp) (in_order (map name_entry es)))
in_order_rises es = is_true (is_sorted (slice_cmp nat_cmp) (in_order (map name_entry es))) (rises-in_order (map name_entry es))
