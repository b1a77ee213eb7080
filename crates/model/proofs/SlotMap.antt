-- A list with gaps as a map: what it holds, and a write.
use Rattle.std.proofs.Common.{◌≡◌, ◌≢◌, ℕ, zero, suc, ◌+◌, ◌<◌, ◌≤◌, List, [], ◌∷◌, ◌++◌, length, set, get_or, Option, Some, None, refl, sym, ap, ◌∙◌, arith, ⊎_elim}
use Rattle.std.proofs.lemmas.Bool.{cases_eq}
use Rattle.std.specs.Ordering.{nat_cmp}
use Rattle.std.specs.FinMap.{FinMap, get, insert, remove, get-empty}
use Rattle.model.specs.Slots.{slots_from}
use Rattle.model.proofs.NatMap.{get-insert_same, get-insert_other, get-remove_same, get-remove_other, same_nat_map}

-- what a list with gaps holds at a place
abbrev pub slot_at : {X : Type 0} → List (Option X) → ℕ → Option X
slot_at [] k = None
slot_at (slot ∷ slots) zero = slot
slot_at (slot ∷ slots) (suc k) = slot_at slots k

module _ {X : Type 0} where
  pub slots_below : (slots : List (Option X)) (i q : ℕ) → q < i → get (slots_from i slots) q ≡ None
  unfolding slots_from
  slots_below [] i q h = get-empty nat_cmp q
  slots_below (None ∷ slots) i q h = slots_below slots (i + 1) q (omega arith)
  slots_below (Some x ∷ slots) i q h =
      let ne : q ≢ i = λ e. absurd (omega arith) in
      get-insert_other _ i x q ne ∙ slots_below slots (i + 1) q (omega arith)

  pub slots_get : (slots : List (Option X)) (i k q : ℕ) → i + k ≡ q → get (slots_from i slots) q ≡ slot_at slots k
  unfolding slots_from
  slots_get [] i k q e = get-empty nat_cmp q
  slots_get (None ∷ slots) i zero q e = slots_below slots (i + 1) q (omega arith)
  slots_get (None ∷ slots) i (suc k) q e = slots_get slots (i + 1) k q (omega arith)
  slots_get (Some x ∷ slots) i zero q e = let at : q ≡ i = omega arith in rw at (get-insert_same _ i x)
  slots_get (Some x ∷ slots) i (suc k) q e =
      let ne : q ≢ i = λ e'. absurd (omega arith) in
      get-insert_other _ i x q ne ∙ slots_get slots (i + 1) k q (omega arith)

  pub slot_at-set_same : (slots : List (Option X)) (k : ℕ) (v : Option X) → k < length slots → slot_at (set slots k v) k ≡ v
  slot_at-set_same [] k v h = absurd (omega arith)
  slot_at-set_same (s ∷ slots) zero v h = refl
  slot_at-set_same (s ∷ slots) (suc k) v h = slot_at-set_same slots k v (omega arith)

  pub slot_at-set_other : (slots : List (Option X)) (k q : ℕ) (v : Option X) → q ≢ k → slot_at (set slots k v) q ≡ slot_at slots q
  slot_at-set_other [] k q v ne = refl
  slot_at-set_other (s ∷ slots) zero zero v ne = absurd (ne refl)
  slot_at-set_other (s ∷ slots) zero (suc q) v ne = refl
  slot_at-set_other (s ∷ slots) (suc k) zero v ne = refl
  slot_at-set_other (s ∷ slots) (suc k) (suc q) v ne = slot_at-set_other slots k q v (λ e. ne (ap suc e))

  pub slot_at_past : (slots : List (Option X)) (k : ℕ) → length slots ≤ k → slot_at slots k ≡ None
  slot_at_past [] k h = refl
  slot_at_past (s ∷ slots) zero h = absurd (omega arith)
  slot_at_past (s ∷ slots) (suc k) h = slot_at_past slots k (omega arith)

  -- what the map holds at a place
  pub get-slots : (slots : List (Option X)) (q : ℕ) → get (slots_from 0 slots) q ≡ slot_at slots q
  get-slots slots q = slots_get slots 0 q q (omega arith)

  -- a place made empty is a key removed
  pub slots-set_none : (slots : List (Option X)) (k : ℕ) → k < length slots → slots_from 0 (set slots k None) ≡ remove (slots_from 0 slots) k
  slots-set_none slots k h =
      same_nat_map _ _ (λ q. get-slots (set slots k None) q ∙ ⊎_elim
      (λ e. rw e (slot_at-set_same slots k None h ∙ sym (get-remove_same _ k)))
      (λ ne. slot_at-set_other slots k q None ne ∙ sym (get-remove_other _ k q ne ∙ get-slots slots q))
      (cases_eq q k))

  -- a place filled is a key inserted
  pub slots-set_some : (slots : List (Option X)) (k : ℕ) (v : X) → k < length slots → slots_from 0 (set slots k (Some v)) ≡ insert (slots_from 0 slots) k v
  slots-set_some slots k v h =
      same_nat_map _ _ (λ q. get-slots (set slots k (Some v)) q ∙ ⊎_elim
      (λ e. rw e (slot_at-set_same slots k (Some v) h ∙ sym (get-insert_same _ k v)))
      (λ ne. slot_at-set_other slots k q (Some v) ne ∙ sym (get-insert_other _ k v q ne ∙ get-slots slots q))
      (cases_eq q k))

  -- a key that is not there may be removed
  pub remove_absent : (m : FinMap nat_cmp X) (k : ℕ) → get m k ≡ None → remove m k ≡ m
  remove_absent m k h =
      same_nat_map _ _ (λ q. ⊎_elim
      (λ e. rw e (get-remove_same m k ∙ sym h))
      (λ ne. get-remove_other m k q ne)
      (cases_eq q k))

  pub slot_at_read : (slots : List (Option X)) (k : ℕ) (d : Option X) → k < length slots → slot_at slots k ≡ get_or slots k d
  slot_at_read [] k d h = absurd (omega arith)
  slot_at_read (s ∷ slots) zero d h = refl
  slot_at_read (s ∷ slots) (suc k) d h = slot_at_read slots k d (omega arith)

  pub slot_at-push_same : (slots : List (Option X)) (v : Option X) → slot_at (slots ++ v ∷ []) (length slots) ≡ v
  slot_at-push_same [] v = refl
  slot_at-push_same (s ∷ slots) v = slot_at-push_same slots v

  pub slot_at-push_other : (slots : List (Option X)) (q : ℕ) (v : Option X) → q ≢ length slots → slot_at (slots ++ v ∷ []) q ≡ slot_at slots q
  slot_at-push_other [] zero v ne = absurd (ne refl)
  slot_at-push_other [] (suc q) v ne = refl
  slot_at-push_other (s ∷ slots) zero v ne = refl
  slot_at-push_other (s ∷ slots) (suc q) v ne = slot_at-push_other slots q v (λ e. ne (ap suc e))

  pub slots-push : (slots : List (Option X)) (v : X) → slots_from 0 (slots ++ Some v ∷ []) ≡ insert (slots_from 0 slots) (length slots) v
  slots-push slots v =
      same_nat_map _ _ (λ q. get-slots (slots ++ Some v ∷ []) q ∙ ⊎_elim
      (λ e. rw e (slot_at-push_same slots (Some v) ∙ sym (get-insert_same _ (length slots) v)))
      (λ ne. slot_at-push_other slots q (Some v) ne ∙ sym (get-insert_other _ (length slots) v q ne ∙ get-slots slots q))
      (cases_eq q (length slots)))
