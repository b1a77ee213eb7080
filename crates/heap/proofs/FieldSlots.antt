-- Which fields are among those of one object that lead to young objects.
use Rattle.std.proofs.Common.{◌≡◌, ℕ, zero, suc, ◌+◌, Bool, true, false, cond, List, [], ◌∷◌, ◌++◌, map, Option, Some, None, refl, sym, ap, subst, ◌∙◌, arith, inl, inr}
use Rattle.std.proofs.lemmas.Bool.{le-leb}
use Rattle.std.specs.Prelude.{filter, nat_le, slice_get}
use Rattle.std.specs.Option.{option_map_or}
use Rattle.model.specs.Graph.{Graph, Object}
use Rattle.model.specs.Live.{IsYoung}
use Rattle.model.specs.OldSlots.{Slot, is_young_name, slots_of_fields}
use Rattle.model.proofs.Among.{Among, among_left, among_right}

pub name_young : (graph : Graph) (g name : ℕ) → IsYoung graph g name → is_young_name graph g name ≡ true
name_young graph g name y = ap (λ o. option_map_or (λ (x : Object). nat_le x.generation g) o false) y.there ∙ le-leb y.object.generation g y.young

abbrev slot_of : ℕ → ℕ → ℕ → Slot
slot_of holder i target = record { holder = holder; field = i; target = target }

same_slot : (slot : Slot) (holder i target : ℕ) → slot.holder ≡ holder → slot.field ≡ i → slot.target ≡ target → slot ≡ slot_of holder i target
same_slot slot holder i target h f t = λ j. slot_of (h j) (f j) (t j)

add_zero : (i : ℕ) → i + 0 ≡ i
add_zero i = omega arith

module _ (graph : Graph) (g holder : ℕ) where
  pub record IsSlotOf (i : ℕ) (fields : List (Option ℕ)) (slot : Slot) : Type 0 where
    pub k : ℕ
    pub at_holder : slot.holder ≡ holder
    pub at_field : slot.field ≡ i + k
    pub leads : slice_get fields k ≡ Some (Some slot.target)
    pub young : is_young_name graph g slot.target ≡ true

  later : (i : ℕ) (first : Option ℕ) (fields : List (Option ℕ)) (slot : Slot) → IsSlotOf (i + 1) fields slot → IsSlotOf i (first ∷ fields) slot
  later i first fields slot s = record { k = suc s.k; at_holder = s.at_holder; at_field = omega (arith, s.at_field); leads = s.leads; young = s.young }

  pub slots_from_list : (i : ℕ) (fields : List (Option ℕ)) (slot : Slot) → Among slot (slots_of_fields graph g holder i fields) → IsSlotOf i fields slot
  slots_from_list i [] slot h = absurd h
  slots_from_list i (None ∷ fields) slot h = later i None fields slot (slots_from_list (i + 1) fields slot h)
  slots_from_list i (Some target ∷ fields) slot h = go (is_young_name graph g target) refl (slots_from_list (i + 1) fields slot) h
    where
      go : (b : Bool) → is_young_name graph g target ≡ b → (Among slot (slots_of_fields graph g holder (i + 1) fields) → IsSlotOf (i + 1) fields slot) → Among slot (map (λ t. slot_of holder i t) (cond b (target ∷ []) []) ++ slots_of_fields graph g holder (i + 1) fields) → IsSlotOf i (Some target ∷ fields) slot
      go true e rest (inl at) =
          record { k = 0; at_holder = ap (λ s. s.holder) at; at_field = ap (λ s. s.field) at ∙ sym (add_zero i); leads = ap (λ s. Some (Some s.target)) (sym at); young = subst (λ s. is_young_name graph g s.target ≡ true) (sym at) e }
      go true e rest (inr r) = later i (Some target) fields slot (rest r)
      go false e rest r = later i (Some target) fields slot (rest r)

  pub slots_to_list : (i k : ℕ) (fields : List (Option ℕ)) (slot : Slot) → slot.holder ≡ holder → slot.field ≡ i + k → slice_get fields k ≡ Some (Some slot.target) → is_young_name graph g slot.target ≡ true → Among slot (slots_of_fields graph g holder i fields)
  slots_to_list i k [] slot h f l y = absurd (cc)
  slots_to_list i zero (None ∷ fields) slot h f l y = absurd (cc)
  slots_to_list i zero (Some target ∷ fields) slot h f l y =
      let same : slot.target ≡ target = cc in
      let at : slot ≡ slot_of holder i target = same_slot slot holder i target h (f ∙ add_zero i) same in
      let young : is_young_name graph g target ≡ true = subst (λ t. is_young_name graph g t ≡ true) same y in
      among_left (map (slot_of holder i) (filter (is_young_name graph g) (target ∷ []))) _ slot
      (subst (λ b. Among slot (map (slot_of holder i) (cond b (target ∷ []) []))) (sym young) (inl at))
  slots_to_list i (suc k) (None ∷ fields) slot h f l y = slots_to_list (i + 1) k fields slot h (omega (arith, f)) l y
  slots_to_list i (suc k) (Some target ∷ fields) slot h f l y =
      among_right (map (slot_of holder i) (filter (is_young_name graph g) (target ∷ []))) _ slot
      (slots_to_list (i + 1) k fields slot h (omega (arith, f)) l y)
