-- The list of old slots has exactly the pointers of older objects to younger ones.
use Rattle.std.proofs.Common.{◌≡◌, ◌≢◌, ℕ, zero, suc, ◌+◌, ◌-◌, ◌<◌, Bool, true, false, ◌&&◌, cond, List, [], ◌∷◌, ◌++◌, map, Option, Some, None, T, refl, sym, ap, subst, ◌∙◌, arith, inl, inr, ⊎_elim, Ordering}
use Rattle.std.proofs.lemmas.Bool.{true≢false, eqb-true, eq-eqb, or_left, cases_eq, leb-true, le-leb}
use Rattle.std.specs.Prelude.{nat_eq, nat_le, filter, slice_get}
use Rattle.std.specs.Option.{option_map_or, option_and_then}
use Rattle.std.specs.Ordering.{nat_cmp, is_lt}
use Rattle.std.specs.declared.cmp.Ordering.TheVariants.{Less, Equal, Greater}
use Rattle.std.specs.Cmp.{ranked}
use Rattle.std.specs.FinMap.{entries, find, entries_sorted, get-entries, is_sorted}
use Rattle.model.specs.Graph.{Graph, Object, object_at}
use Rattle.model.specs.Live.{IsYoung}
use Rattle.model.specs.Destination.{numbers_from}
use Rattle.model.specs.OldSlots.{Slot, is_young_name, slots_of_fields, slots_of_generation, old_slots}
use Rattle.model.specs.Laws.{GenerationsBelow, IsOldToYoung, OldSlotsAreExact}
use Rattle.model.specs.Reached.{has}
use Rattle.model.proofs.NatMap.{find_same, find_other}
use Rattle.model.proofs.Has.{has_none, has-cons, has_tail, has_numbers, has_numbers_from}
use Rattle.model.proofs.Among.{Among, among_Contains, Contains-among, among_left, among_right, among_filter, among_filter_from, among_flat_map, among_flat_map_from}

among_has : (xs : List ℕ) (q : ℕ) → has xs q ≡ true → Among q xs
among_has [] q h = has_none q h
among_has (x ∷ xs) q h = ⊎_elim (λ e. inl e) (λ r. inr (among_has xs q r)) (has-cons x xs q h)

has_among : (xs : List ℕ) (q : ℕ) → Among q xs → has xs q ≡ true
has_among [] q h = absurd h
has_among (x ∷ xs) q (inl e) = or_left _ _ (eq-eqb q x e)
has_among (x ∷ xs) q (inr h) = has_tail x xs q (has_among xs q h)

both : (a b : Bool) → T (a && b) → T a × T b
both true b h = (tt, h)
both false b h = absurd h

-- each key is above x, as `is_sorted` tests it
abbrev all_above : {X : Type 0} → ℕ → List (ℕ × X) → Bool
all_above x [] = true
all_above x (e ∷ es) = is_lt (nat_cmp x e.0) && all_above x es

less : (x y : ℕ) (r : Ordering) → r ≡ nat_cmp x y → T (is_lt r) → x < y
less x y Less e t = ranked x y Less e
less x y Equal e t = absurd t
less x y Greater e t = absurd t

module _ {X : Type 0} where
  above : (x : ℕ) (es : List (ℕ × X)) (e : ℕ × X) → T (all_above x es) → Among e es → x < e.0
  above x [] e t h = absurd h
  above x (d ∷ es) e t (inl at) = subst (λ y. x < y.0) (sym at) (less x d.0 _ refl (both _ (all_above x es) t).0)
  above x (d ∷ es) e t (inr h) = above x es e (both (is_lt (nat_cmp x d.0)) (all_above x es) t).1 h

  -- an entry of a sorted list is what its key finds
  pub entry_found : (es : List (ℕ × X)) (e : ℕ × X) → T (is_sorted nat_cmp es) → Among e es → find nat_cmp e.0 es ≡ Some e.1
  entry_found [] e t h = absurd h
  entry_found (d ∷ es) e t (inl at) = subst (λ y. find nat_cmp y.0 (d ∷ es) ≡ Some y.1) (sym at) (find_same d.0 d.1 es)
  entry_found (d ∷ es) e t (inr h) =
      let parts : T (all_above d.0 es) × T (is_sorted nat_cmp es) = both (all_above d.0 es) (is_sorted nat_cmp es) t in
      let low : d.0 < e.0 = above d.0 es e parts.0 h in
      let ne : e.0 ≢ d.0 = omega arith in
      find_other e.0 d.0 d.1 es ne ∙ entry_found es e parts.1 h

  found_entry : (es : List (ℕ × X)) (q : ℕ) (v : X) → find nat_cmp q es ≡ Some v → Among (q, v) es
  found_entry [] q v h = absurd (cc)
  found_entry (d ∷ es) q v h =
      ⊎_elim
      (λ e. let same : Some d.1 ≡ Some v = sym (find_same d.0 d.1 es) ∙ subst (λ k. find nat_cmp k (d ∷ es) ≡ Some v) e h in
      let value : d.1 ≡ v = cc in inl (λ i. (e i, sym value i)))
      (λ ne. inr (found_entry es q v (sym (find_other q d.0 d.1 es ne) ∙ h)))
      (cases_eq q d.0)

pub young_name : (graph : Graph) (g name : ℕ) → is_young_name graph g name ≡ true → IsYoung graph g name
young_name graph g name h = go (object_at graph name) refl h
  where
    go : (o : Option Object) → object_at graph name ≡ o → option_map_or (λ x. nat_le x.generation g) o false ≡ true → IsYoung graph g name
    go None e k = absurd (true≢false (sym k))
    go (Some o) e k = record { object = o; there = e; young = leb-true o.generation g k }

name_young : (graph : Graph) (g name : ℕ) → IsYoung graph g name → is_young_name graph g name ≡ true
name_young graph g name y = ap (λ o. option_map_or (λ x. nat_le x.generation g) o false) y.there ∙ le-leb y.object.generation g y.young

abbrev slot_of : ℕ → ℕ → ℕ → Slot
slot_of holder i target = record { holder = holder; field = i; target = target }

same_slot : (slot : Slot) (holder i target : ℕ) → slot.holder ≡ holder → slot.field ≡ i → slot.target ≡ target → slot ≡ slot_of holder i target
same_slot slot holder i target h f t = λ j. slot_of (h j) (f j) (t j)

add_zero : (i : ℕ) → i + 0 ≡ i
add_zero i = omega arith

module _ (graph : Graph) (g holder : ℕ) where
  record IsSlotOf (i : ℕ) (fields : List (Option ℕ)) (slot : Slot) : Type 0 where
    k : ℕ
    at_holder : slot.holder ≡ holder
    at_field : slot.field ≡ i + k
    leads : slice_get fields k ≡ Some (Some slot.target)
    young : is_young_name graph g slot.target ≡ true

  later : (i : ℕ) (first : Option ℕ) (fields : List (Option ℕ)) (slot : Slot) → IsSlotOf (i + 1) fields slot → IsSlotOf i (first ∷ fields) slot
  later i first fields slot s = record { k = suc s.k; at_holder = s.at_holder; at_field = omega (arith, s.at_field); leads = s.leads; young = s.young }

  slots_from_list : (i : ℕ) (fields : List (Option ℕ)) (slot : Slot) → Among slot (slots_of_fields graph g holder i fields) → IsSlotOf i fields slot
  slots_from_list i [] slot h = absurd h
  slots_from_list i (None ∷ fields) slot h = later i None fields slot (slots_from_list (i + 1) fields slot h)
  slots_from_list i (Some target ∷ fields) slot h = go (is_young_name graph g target) refl (slots_from_list (i + 1) fields slot) h
    where
      go : (b : Bool) → is_young_name graph g target ≡ b → (Among slot (slots_of_fields graph g holder (i + 1) fields) → IsSlotOf (i + 1) fields slot) → Among slot (map (λ t. slot_of holder i t) (cond b (target ∷ []) []) ++ slots_of_fields graph g holder (i + 1) fields) → IsSlotOf i (Some target ∷ fields) slot
      go true e rest (inl at) =
          record { k = 0; at_holder = ap (λ s. s.holder) at; at_field = ap (λ s. s.field) at ∙ sym (add_zero i); leads = ap (λ s. Some (Some s.target)) (sym at); young = subst (λ s. is_young_name graph g s.target ≡ true) (sym at) e }
      go true e rest (inr r) = later i (Some target) fields slot (rest r)
      go false e rest r = later i (Some target) fields slot (rest r)

  slots_to_list : (i k : ℕ) (fields : List (Option ℕ)) (slot : Slot) → slot.holder ≡ holder → slot.field ≡ i + k → slice_get fields k ≡ Some (Some slot.target) → is_young_name graph g slot.target ≡ true → Among slot (slots_of_fields graph g holder i fields)
  slots_to_list i k [] slot h f l y = absurd (cc)
  slots_to_list i zero (None ∷ fields) slot h f l y = absurd (cc)
  slots_to_list i zero (Some target ∷ fields) slot h f l y =
      let same : slot.target ≡ target = cc in
      let at : slot ≡ slot_of holder i target = same_slot slot holder i target h (f ∙ add_zero i) same in
      let young : is_young_name graph g target ≡ true = subst (λ t. is_young_name graph g t ≡ true) same y in
      among_left (map (slot_of holder i) (filter (is_young_name graph g) (target ∷ []))) _ slot
      (subst (λ b. Among slot (map (slot_of holder i) (cond b (target ∷ []) []))) (sym young) (inl at))
  slots_to_list i (suc k) (None ∷ fields) slot h f l y = slots_to_list (i + 1) k fields slot h (omega (arith, f)) l y
  slots_to_list i (suc k) (Some target ∷ fields) slot h f l y =
      among_right (map (slot_of holder i) (filter (is_young_name graph g) (target ∷ []))) _ slot
      (slots_to_list (i + 1) k fields slot h (omega (arith, f)) l y)

old_slots_only : (graph : Graph) (generations g : ℕ) (slot : Slot) → Among slot (old_slots graph generations g) → IsOldToYoung graph g slot
old_slots_only graph generations g slot h =
    let outer = among_flat_map_from (slots_of_generation graph g) (numbers_from (g + 1) (generations - 1 - g)) slot h in
    let level = has_numbers_from (g + 1) (generations - 1 - g) outer.from (has_among _ outer.from outer.among) in
    let inner = among_flat_map_from (λ e. slots_of_fields graph g e.0 0 e.1.pointers) (filter (λ e. nat_eq e.1.generation outer.from) (entries graph.objects)) slot outer.here in
    let kept = among_filter_from (λ e. nat_eq e.1.generation outer.from) (entries graph.objects) inner.from inner.among in
    let s = slots_from_list graph g inner.from.0 0 inner.from.1.pointers slot inner.here in
    let there : object_at graph inner.from.0 ≡ Some inner.from.1 = get-entries graph.objects inner.from.0 ∙ entry_found (entries graph.objects) inner.from (entries_sorted graph.objects) kept.among in
    let at : object_at graph slot.holder ≡ Some inner.from.1 = ap (object_at graph) s.at_holder ∙ there in
    let same : inner.from.1.generation ≡ outer.from = eqb-true _ _ kept.passes in
    let number : slot.field ≡ s.k = omega (arith, s.at_field) in
    record {
      old = record {
        holder = record { object = inner.from.1; there = at; older = omega (arith, level.0) };
        leads = ap (option_and_then (λ o. slice_get o.pointers slot.field)) at ∙ ap (slice_get inner.from.1.pointers) number ∙ s.leads;
      };
      young = young_name graph g slot.target s.young;
    }

old_slots_all : (graph : Graph) (generations g : ℕ) (slot : Slot) → GenerationsBelow graph generations → IsOldToYoung graph g slot → Among slot (old_slots graph generations g)
old_slots_all graph generations g slot below h =
    let o : Object = h.old.holder.object in
    let low : g < o.generation = h.old.holder.older in
    let high : o.generation < generations = below slot.holder o h.old.holder.there in
    let level : Among o.generation (numbers_from (g + 1) (generations - 1 - g)) = among_has _ _ (has_numbers (g + 1) (generations - 1 - g) o.generation (omega arith) (omega arith)) in
    let entry : Among (slot.holder, o) (entries graph.objects) = found_entry (entries graph.objects) slot.holder o (sym (get-entries graph.objects slot.holder) ∙ h.old.holder.there) in
    let leads : slice_get o.pointers slot.field ≡ Some (Some slot.target) = ap (option_and_then (λ x. slice_get x.pointers slot.field)) (sym h.old.holder.there) ∙ h.old.leads in
    among_flat_map (slots_of_generation graph g) _ o.generation slot level
    (among_flat_map (λ e. slots_of_fields graph g e.0 0 e.1.pointers) (filter (λ e. nat_eq e.1.generation o.generation) (entries graph.objects)) (slot.holder, o) slot
    (among_filter (λ e. nat_eq e.1.generation o.generation) (entries graph.objects) (slot.holder, o) entry (eq-eqb o.generation o.generation refl))
    (slots_to_list graph g slot.holder 0 slot.field o.pointers slot refl (omega arith) leads (name_young graph g slot.target h.young)))

pub old_slots_exact : OldSlotsAreExact
old_slots_exact graph generations g slot below =
    (λ h. old_slots_only graph generations g slot (among_Contains _ slot h), λ h. Contains-among _ slot (old_slots_all graph generations g slot below h))
