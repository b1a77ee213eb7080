-- The keys of a map as a list.
use Rattle.std.proofs.Common.{◌≡◌, ◌≢◌, ℕ, suc, ◌+◌, ◌<◌, Bool, true, false, ◌&&◌, List, [], ◌∷◌, map, length, Some, None, T, refl, sym, ap, subst, ◌∙◌, arith, ⊎_elim, Ordering}
use Rattle.std.specs.Prelude.{nat_eq, sum_by}
use Rattle.std.specs.Option.{option_map_or}
use Rattle.std.proofs.lemmas.List.Sums.{sum_by-cons}
use Rattle.std.proofs.lemmas.Bool.{cases_eq}
use Rattle.std.specs.declared.cmp.Ordering.TheVariants.{Less, Equal, Greater}
use Rattle.std.specs.Cmp.{ranked}
use Rattle.std.specs.Ordering.{nat_cmp, is_lt}
use Rattle.std.specs.List.{IsDistinct}
use Rattle.std.specs.FinMap.{FinMap, find, get, keys, values, len, entries, entries_sorted, get-entries, len-entries, is_sorted}
use Rattle.model.specs.Reached.{has}
use Rattle.model.proofs.Has.{has_none, has_head, has_tail, has-cons}
use Rattle.model.proofs.Same.{SameMembers, same_length, apart_from_absent}
use Rattle.model.proofs.NatMap.{find_same, find_other}

both : (a b : Bool) → T (a && b) → T a × T b
both true b h = (tt, h)
both false b h = absurd h

-- each key is above x, as `is_sorted` tests it
abbrev all_above : {X : Type 0} → ℕ → List (ℕ × X) → Bool
all_above x [] = true
all_above x (e ∷ es) = is_lt (nat_cmp x e.0) && all_above x es

less : (x y : ℕ) (r : Ordering) → r ≡ nat_cmp x y → T (is_lt r) → x < y
less x y Less e t = ranked x y Less e
less x y Equal e t = absurd t
less x y Greater e t = absurd t

module _ {X : Type 0} where
  abbrev keys_of : List (ℕ × X) → List ℕ
  keys_of es = map (λ e. e.0) es

  above : (x : ℕ) (es : List (ℕ × X)) (q : ℕ) → T (all_above x es) → has (keys_of es) q ≡ true → x < q
  above x [] q t h = has_none q h
  above x (e ∷ es) q t h =
      let parts = both (is_lt (nat_cmp x e.0)) (all_above x es) t in
      ⊎_elim (λ at. let low : x < e.0 = less x e.0 _ refl parts.0 in omega arith) (λ later. above x es q parts.1 later) (has-cons e.0 (keys_of es) q h)

  sorted_distinct : (es : List (ℕ × X)) → T (is_sorted nat_cmp es) → IsDistinct nat_eq (keys_of es)
  unfolding IsDistinct
  sorted_distinct [] t = tt
  sorted_distinct (e ∷ es) t =
      let parts = both (all_above e.0 es) (is_sorted nat_cmp es) t in
      (apart_from_absent e.0 (keys_of es) (λ y there same. let low = above e.0 es y parts.0 there in absurd (omega (arith, low, same))), sorted_distinct es parts.1)

  pub keys_distinct : (m : FinMap nat_cmp X) → IsDistinct nat_eq (keys m)
  keys_distinct m = sorted_distinct (entries m) (entries_sorted m)

  -- a key is there exactly where the map holds something
  found_key : (es : List (ℕ × X)) (q : ℕ) (v : X) → find nat_cmp q es ≡ Some v → has (keys_of es) q ≡ true
  found_key [] q v found = let none : None ≡ Some v = found in absurd (cc)
  found_key (e ∷ es) q v found =
      ⊎_elim
      (λ at. subst (λ k. has (e.0 ∷ keys_of es) k ≡ true) (sym at) (has_head e.0 (keys_of es)))
      (λ ne. has_tail e.0 (keys_of es) q (found_key es q v (sym (find_other q e.0 e.1 es ne) ∙ found)))
      (cases_eq q e.0)

  key_found : (es : List (ℕ × X)) (q : ℕ) → has (keys_of es) q ≡ true → (v : X) × (find nat_cmp q es ≡ Some v)
  key_found [] q there = has_none q there
  key_found (e ∷ es) q there =
      ⊎_elim
      (λ at. (e.1, subst (λ k. find nat_cmp k (e ∷ es) ≡ Some e.1) (sym at) (find_same e.0 e.1 es)))
      (λ ne. ⊎_elim (λ at. absurd (ne at))
      (λ later. let found = key_found es q later in (found.0, find_other q e.0 e.1 es ne ∙ found.1))
      (has-cons e.0 (keys_of es) q there))
      (cases_eq q e.0)

  pub has_key : (m : FinMap nat_cmp X) (q : ℕ) (v : X) → get m q ≡ Some v → has (keys m) q ≡ true
  has_key m q v found = found_key (entries m) q v (sym (get-entries m q) ∙ found)

  pub key_has : (m : FinMap nat_cmp X) (q : ℕ) → has (keys m) q ≡ true → (v : X) × (get m q ≡ Some v)
  key_has m q there = let found = key_found (entries m) q there in (found.0, get-entries m q ∙ found.1)

pub keys_count : {X : Type 0} (es : List (ℕ × X)) → length (map (λ (e : ℕ × X). e.0) es) ≡ length es
keys_count [] = refl
keys_count (e ∷ es) = ap suc (keys_count es)

-- maps with the same keys have as many entries
pub same_len : {X Y : Type 0} (m : FinMap nat_cmp X) (n : FinMap nat_cmp Y) → ((q : ℕ) (v : X) → get m q ≡ Some v → (w : Y) × (get n q ≡ Some w)) → ((q : ℕ) (w : Y) → get n q ≡ Some w → (v : X) × (get m q ≡ Some v)) → len m ≡ len n
same_len m n there back =
    let same : SameMembers (keys m) (keys n) = record {
      there = λ q h. let v = key_has m q h in let w = there q v.0 v.1 in has_key n q w.0 w.1;
      back = λ q h. let w = key_has n q h in let v = back q w.0 w.1 in has_key m q v.0 v.1;
    } in
    len-entries m ∙ sym (keys_count (entries m)) ∙ same_length (keys m) (keys n) (keys_distinct m) (keys_distinct n) same ∙ keys_count (entries n) ∙ sym (len-entries n)

-- a sum over the values of a map, by its keys
sum_of_entries : {X : Type 0} (W : X → ℕ) (w : ℕ → ℕ) (es : List (ℕ × X)) → T (is_sorted nat_cmp es) → ((q : ℕ) (v : X) → find nat_cmp q es ≡ Some v → w q ≡ W v) → sum_by W (map (λ (e : ℕ × X). e.1) es) ≡ sum_by w (map (λ (e : ℕ × X). e.0) es)
sum_of_entries W w [] t same = refl
sum_of_entries W w (e ∷ es) t same =
    let parts = both (all_above e.0 es) (is_sorted nat_cmp es) t in
    let here : w e.0 ≡ W e.1 = same e.0 e.1 (find_same e.0 e.1 es) in
    let rest = sum_of_entries W w es parts.1 (λ q v found. same q v (later_found e es q v parts.0 found)) in
    sum_by-cons W e.1 (map (λ d. d.1) es) ∙ (λ i. sym here i + rest i) ∙ sym (sum_by-cons w e.0 (map (λ d. d.0) es))
  where
    later_found : {X : Type 0} (e : ℕ × X) (es : List (ℕ × X)) (q : ℕ) (v : X) → T (all_above e.0 es) → find nat_cmp q es ≡ Some v → find nat_cmp q (e ∷ es) ≡ Some v
    later_found e es q v low found =
        let above_it = above e.0 es q low (found_key es q v found) in
        let ne : q ≢ e.0 = omega (arith, above_it) in
        find_other q e.0 e.1 es ne ∙ found

pub sum_of_values : {X : Type 0} (W : X → ℕ) (m : FinMap nat_cmp X) → sum_by W (values m) ≡ sum_by (λ k. option_map_or W (get m k) 0) (keys m)
sum_of_values W m =
    sum_of_entries W (λ k. option_map_or W (get m k) 0) (entries m) (entries_sorted m)
    (λ q v found. ap (λ x. option_map_or W x 0) (get-entries m q ∙ found))
