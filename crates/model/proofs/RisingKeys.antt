-- The keys of a map with numbers as keys rise, and so do those that pass a test.
use Rattle.std.proofs.Common.{◌≡◌, ◌≢◌, ℕ, zero, suc, ◌+◌, ◌<◌, ◌≤◌, Bool, true, false, cond, T, List, [], ◌∷◌, length, map, filter, get_or, Some, None, Equal, Greater, refl, sym, ap, ◌∙◌, arith, ⊎_elim}
use Rattle.std.proofs.lemmas.Bool.{cases_lt}
use Rattle.std.proofs.lemmas.Bool.Decides.{nat_tests}
use Rattle.std.proofs.lemmas.List.Elements.{All-nil, All-cons, All-weaker}
use Rattle.std.proofs.lemmas.List.Kept.{AllPairs-cons, AllPairs-filter}
use Rattle.std.specs.Prelude.{All, ◌&&◌, nat_lt, nat_eq}
use Rattle.std.proofs.lemmas.Map.Keys.{IsDistinct-from_apart}
use Rattle.std.specs.List.{AllPairs, IsDistinct}
use Rattle.std.specs.Ordering.{nat_cmp, is_lt}
use Rattle.std.specs.FinMap.{FinMap, find, entries, entries_sorted, keys}
use Rattle.std.specs.FinMap.Entries.{is_sorted, below_all}
use Rattle.model.proofs.NatMap.{find_same, find_other}
use Rattle.model.proofs.Rising.{KeysRise, find_below}

lower : (k m : ℕ) → T (is_lt (nat_cmp k m)) → k < m
lower k m h = go (nat_lt k m) refl h
  where
    tied : (b : Bool) → T (is_lt (cond b Equal Greater)) → ⊥
    tied true t = t
    tied false t = t

    go : (b : Bool) → nat_lt k m ≡ b → T (is_lt (nat_cmp k m)) → k < m
    go true is t = grind (arith, nat_tests, is)
    go false is t = absurd (tied (nat_eq k m) (rw is at t))

left : (a b : Bool) → T (a && b) → T a
left true b p = tt
left false b p = p

right : (a b : Bool) → T (a && b) → T b
right true b p = p
right false b p = absurd p

module _ {X : Type 0} where
  rises_above : (k : ℕ) (es : List (ℕ × X)) → T (below_all nat_cmp k es) → T (is_sorted nat_cmp es) → KeysRise (k + 1) es
  rises_above k [] h s = tt
  rises_above k (e ∷ es) h s = (omega (arith, lower k e.0 (left _ _ h)), rises_above e.0 es (left _ _ s) (right _ _ s))

  pub rises : (es : List (ℕ × X)) → T (is_sorted nat_cmp es) → KeysRise 0 es
  rises [] s = tt
  rises (e ∷ es) s = (omega arith, rises_above e.0 es (left _ _ s) (right _ _ s))

  pub entries-rise : (m : FinMap nat_cmp X) → KeysRise 0 (entries m)
  entries-rise m = rises (entries m) (entries_sorted m)

  keys_above : (low : ℕ) (es : List (ℕ × X)) → KeysRise low es → All (λ k. low ≤ k) (map (λ e. e.0) es)
  keys_above low [] r = All-nil (λ k. low ≤ k)
  keys_above low (e ∷ es) r =
      All-cons (λ k. low ≤ k) e.0 (map (λ x. x.0) es) r.0
      (All-weaker (λ k. e.0 + 1 ≤ k) (λ k. low ≤ k) (λ k le. omega (arith, r.0)) (map (λ x. x.0) es) (keys_above (e.0 + 1) es r.1))

  pub keys-rise : (low : ℕ) (es : List (ℕ × X)) → KeysRise low es → AllPairs (λ x y. x < y) (map (λ e. e.0) es)
  keys-rise low [] r = λ i j d lt in_range. absurd (omega arith)
  keys-rise low (e ∷ es) r =
      AllPairs-cons (λ x y. x < y) e.0 (map (λ x. x.0) es)
      (All-weaker (λ k. e.0 + 1 ≤ k) (λ k. e.0 < k) (λ k le. omega arith) (map (λ x. x.0) es) (keys_above (e.0 + 1) es r.1))
      (keys-rise (e.0 + 1) es r.1)

  -- the entry at a place is found by its key
  pub find_entry : (low : ℕ) (es : List (ℕ × X)) (k : ℕ) (d : ℕ × X) → KeysRise low es → k < length es → find nat_cmp (get_or es k d).0 es ≡ Some (get_or es k d).1
  find_entry low [] k d r lt = absurd (omega arith)
  find_entry low (e ∷ es) zero d r lt = find_same e.0 e.1 es
  find_entry low (e ∷ es) (suc k) d r lt =
      let rest = find_entry (e.0 + 1) es k d r.1 (omega arith) in
      let ne : (get_or es k d).0 ≢ e.0 = λ is. absurd (differ (sym rest ∙ ap (λ q. find nat_cmp q es) is ∙ find_below e.0 (e.0 + 1) es (omega arith) r.1)) in
      find_other (get_or es k d).0 e.0 e.1 es ne ∙ rest
    where
      differ : {x : X} → Some x ≡ None → ⊥
      differ e = cc

-- numbers that rise differ
pub same_index : (xs : List ℕ) (a b : ℕ) → AllPairs (λ x y. x < y) xs → a < length xs → b < length xs → get_or xs a 0 ≡ get_or xs b 0 → a ≡ b
same_index xs a b pairs la lb is =
    ⊎_elim
    (λ lt. let h : get_or xs a 0 < get_or xs b 0 = pairs a b 0 lt lb in absurd (omega arith))
    (λ ge. ⊎_elim
    (λ lt. let h : get_or xs b 0 < get_or xs a 0 = pairs b a 0 lt la in absurd (omega arith))
    (λ le. omega arith)
    (cases_lt b a))
    (cases_lt a b)

pub keys-filter_rise : {X : Type 0} (m : FinMap nat_cmp X) (p : ℕ → Bool) → AllPairs (λ x y. x < y) (filter p (keys m))
keys-filter_rise m p = AllPairs-filter (λ x y. x < y) p (keys m) (keys-rise 0 (entries m) (entries-rise m))

pub distinct_from_rise : (xs : List ℕ) → AllPairs (λ x y. x < y) xs → IsDistinct nat_eq xs
distinct_from_rise xs pairs = IsDistinct-from_apart nat_eq xs (λ i j d lt in_range. let h : get_or xs i d < get_or xs j d = pairs i j d lt in_range in grind (arith, nat_tests, h))
