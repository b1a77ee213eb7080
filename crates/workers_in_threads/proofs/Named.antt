-- What settled cells say of names.
use Rattle.std.proofs.Common.{◌≡◌, ◌≢◌, ℕ, zero, suc, ◌+◌, ◌<◌, ◌≤◌, List, [], ◌∷◌, length, Option, Some, refl, sym, ap, ◌∙◌, ⊎_elim, arith, nat_eq, eq-eqb, ne_eqb}
use Rattle.std.proofs.lemmas.Bool.{cases_eq, cond-true, cond-false}
use Rattle.std.specs.Prelude.{slice_index, ◌==◌, if◌then◌else◌}
use Rattle.std.specs.Ordering.{nat_cmp}
use Rattle.std.specs.Cmp.{unsigned_tied}
use Rattle.std.specs.FinMap.{find}
use Rattle.model.specs.OldSlots.{is_young_name}
use Rattle.model.proofs.RisingKeys.{same_index, keys-filter_rise}
use Rattle.layout.specs.declared.place.Place.{Place}
use Rattle.forwarding.specs.Settled.{wins_of as cell_wins}
use Rattle.steps.specs.HeapValue.{HeapValue}
use Rattle.steps.specs.CollectionValue.{CollectionValue, young_names}
use Rattle.workers.specs.Total.{one_if, wins_of, ones}
use Rattle.workers.specs.Joined.{Each}
use Rattle.workers_in_threads.specs.SharingValue.{stands_at, forwarded_in}

some_is : {X : Type 0} {x y : X} → Some x ≡ Some y → x ≡ y
some_is e = cc

-- what is won at most once is found exactly where it was won
pub found_once : (name : ℕ) (es : List (ℕ × ℕ)) → wins_of name es ≤ 1 → wins_of name es ≡ ones (find nat_cmp name es)
found_once name [] l = refl
found_once name (e ∷ es) l =
    ⊎_elim
    (λ (same : name ≡ e.0).
    let one : one_if (nat_eq e.0 name) ≡ 1 = ap one_if (eq-eqb e.0 name (sym same)) in
    let f : ones (find nat_cmp name (e ∷ es)) ≡ 1 = ap ones (cond-true _ _ _ (unsigned_tied name e.0 ∙ eq-eqb name e.0 same)) in
    omega (arith, l, one, f))
    (λ (ne : name ≢ e.0).
    let none : one_if (nat_eq e.0 name) ≡ 0 = ap one_if (ne_eqb e.0 name (λ q. ne (sym q))) in
    let f : ones (find nat_cmp name (e ∷ es)) ≡ ones (find nat_cmp name es) = ap ones (cond-false _ _ _ (unsigned_tied name e.0 ∙ ne_eqb name e.0 ne)) in
    let r = found_once name es (omega (arith, l, none)) in
    omega (arith, none, f, r))
    (cases_eq name e.0)

module _ (heap : HeapValue) (c : CollectionValue) (count : c.cells ≡ length (young_names heap.graph c.generation)) where
  abbrev pub name_at : ℕ → ℕ
  name_at number = slice_index (young_names heap.graph c.generation) number

  abbrev pub InRange : ℕ × Place → Type 0
  InRange e = e.0 < c.cells

  -- a name has one number
  pub one_number : (a b : ℕ) → a < c.cells → b < c.cells → name_at a ≡ name_at b → a ≡ b
  one_number a b l m e =
      same_index (young_names heap.graph c.generation) a b (keys-filter_rise heap.graph.objects (is_young_name heap.graph c.generation)) (omega (arith, l, count)) (omega (arith, m, count)) e

  -- a name is won as often as its number
  pub wins_named : (number : ℕ) → number < c.cells → (pairs : List (ℕ × Place)) → Each InRange pairs → wins_of (name_at number) (forwarded_in heap c pairs) ≡ cell_wins number pairs
  wins_named number l [] h = refl
  wins_named number l (x ∷ xs) h =
      let r : wins_of (name_at number) (forwarded_in heap c xs) ≡ cell_wins number xs = wins_named number l xs h.1 in
      let one : one_if (nat_eq (name_at x.0) (name_at number)) ≡ (if x.0 == number then 1 else 0) =
      ⊎_elim
      (λ (same : x.0 ≡ number). ap one_if (eq-eqb (name_at x.0) (name_at number) (ap name_at same)) ∙ sym (ap (λ b. if b then 1 else 0) (eq-eqb x.0 number same)))
      (λ (ne : x.0 ≢ number). ap one_if (ne_eqb (name_at x.0) (name_at number) (λ q. ne (one_number x.0 number h.0 l q))) ∙ sym (ap (λ b. if b then 1 else 0) (ne_eqb x.0 number ne)))
      (cases_eq x.0 number) in
      ap (λ k. one_if (nat_eq (name_at x.0) (name_at number)) + k) r ∙ ap (λ k. k + cell_wins number xs) one

  module _ (g : ℕ → Option Place) where
    abbrev pub IsGiven : ℕ × Place → Type 0
    IsGiven x = g x.0 ≡ Some x.1

    -- what is won, is found by its name
    pub found_named : (number : ℕ) (place : Place) → number < c.cells → g number ≡ Some place → (pairs : List (ℕ × Place)) → Each InRange pairs → Each IsGiven pairs → 0 < cell_wins number pairs
        → find nat_cmp (name_at number) (forwarded_in heap c pairs) ≡ Some (stands_at heap c (name_at number) place)
    found_named number place l is [] h k w = absurd (omega (arith, w))
    found_named number place l is (x ∷ xs) h k w =
        ⊎_elim
        (λ (same : name_at number ≡ name_at x.0).
        let q : x.0 ≡ number = one_number x.0 number h.0 l (sym same) in
        let p : x.1 ≡ place = some_is (sym k.0 ∙ ap g q ∙ is) in
        cond-true _ _ _ (unsigned_tied (name_at number) (name_at x.0) ∙ eq-eqb (name_at number) (name_at x.0) same)
        ∙ ap (λ n. Some (stands_at heap c n x.1)) (sym same) ∙ ap (λ z. Some (stands_at heap c (name_at number) z)) p)
        (λ (ne : name_at number ≢ name_at x.0).
        let none : ◌≡◌ {A = ℕ} (if x.0 == number then 1 else 0) 0 = ap (λ b. if b then 1 else 0) (ne_eqb x.0 number (λ q. ne (ap name_at (sym q)))) in
        cond-false _ _ _ (unsigned_tied (name_at number) (name_at x.0) ∙ ne_eqb (name_at number) (name_at x.0) ne)
        ∙ found_named number place l is xs h.1 k.1 (omega (arith, w, none)))
        (cases_eq (name_at number) (name_at x.0))

  -- a name that was won has a number
  pub won_number : (name : ℕ) (pairs : List (ℕ × Place)) → Each InRange pairs → 0 < wins_of name (forwarded_in heap c pairs) → (number : ℕ) × ((number < c.cells) × (name ≡ name_at number))
  won_number name [] h w = absurd (omega (arith, w))
  won_number name (x ∷ xs) h w =
      ⊎_elim
      (λ (same : name ≡ name_at x.0). (x.0, (h.0, same)))
      (λ (ne : name ≢ name_at x.0).
      let none : one_if (nat_eq (name_at x.0) name) ≡ 0 = ap one_if (ne_eqb (name_at x.0) name (λ q. ne (sym q))) in
      won_number name xs h.1 (omega (arith, w, none)))
      (cases_eq name (name_at x.0))

  -- where each number is won at most once, so is each name
  pub won_once : (name : ℕ) (pairs : List (ℕ × Place)) → Each InRange pairs → ((number : ℕ) → cell_wins number pairs ≤ 1) → wins_of name (forwarded_in heap c pairs) ≤ 1
  won_once name pairs h once = by (wins_of name (forwarded_in heap c pairs)) refl
    where
      by : (k : ℕ) → wins_of name (forwarded_in heap c pairs) ≡ k → wins_of name (forwarded_in heap c pairs) ≤ 1
      by zero e = omega (arith, e)
      by (suc k) e =
          let n = won_number name pairs h (omega (arith, e)) in
          let w : wins_of name (forwarded_in heap c pairs) ≡ cell_wins n.0 pairs = ap (λ m. wins_of m (forwarded_in heap c pairs)) n.1.1 ∙ wins_named n.0 n.1.0 pairs h in
          let o = once n.0 in
          omega (arith, w, o)
