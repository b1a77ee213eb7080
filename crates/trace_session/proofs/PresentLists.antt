-- The names of the objects that are in a store, and sums over its objects and those of the heap that stands for it.
use Rattle.std.proofs.Common.{◌≡◌, ℕ, zero, suc, ◌+◌, ◌≤◌, true, false, cond, List, [], ◌∷◌, map, length, Option, Some, None, refl, sym, ap, subst, ◌∙◌, arith, ⊎_elim}
use Rattle.std.specs.Prelude.{nat_eq, nat_le, sum_by, count_by, filter, filter_map}
use Rattle.std.specs.Option.{option_map_or}
use Rattle.std.proofs.lemmas.List.{length-map}
use Rattle.std.proofs.lemmas.List.Sums.{sum_by-cons, length-filter}
use Rattle.std.specs.List.{IsDistinct}
use Rattle.std.specs.FinMap.{get, keys, values, len, entries, len-entries}
use Rattle.model.specs.Graph as graph
use Rattle.model.specs.Graph.{Graph, Object}
use Rattle.model.specs.Reached.{has}
use Rattle.model.specs.OldSlots.{is_young_name}
use Rattle.model.specs.Store.{Store, object_at, present}
use Rattle.model.proofs.SlotMap.{slot_at}
use Rattle.model.proofs.Has.{has_none, has_head, has_tail, has-cons, has_map, has_map_of}
use Rattle.model.proofs.Same.{SameMembers, same_length, same_sum_by, apart_from_absent, IsDistinct-map}
use Rattle.trace_session.specs.Stands.{renamed_object, IsPlaced}
use Rattle.trace_session.proofs.StoreObjects.{at_slot}
use Rattle.trace_session.proofs.NamedLemmas.{none_is_some}
use Rattle.model.proofs.KeyLists.{has_key, key_has, keys_distinct, keys_count, sum_of_values}

-- the places from i on that hold something
abbrev present_from : ℕ → List (Option Object) → List ℕ
present_from i [] = []
present_from i (None ∷ objects) = present_from (i + 1) objects
present_from i (Some o ∷ objects) = i ∷ present_from (i + 1) objects

record At (i : ℕ) (objects : List (Option Object)) (n : ℕ) : Type 0 where
  k : ℕ
  object : Object
  is : n ≡ i + k
  there : slot_at objects k ≡ Some object

at_next : (i : ℕ) (o : Option Object) (objects : List (Option Object)) (n : ℕ) → At (i + 1) objects n → At i (o ∷ objects) n
at_next i o objects n at = record { k = suc at.k; object = at.object; is = omega (arith, at.is); there = at.there }

present_at : (i : ℕ) (objects : List (Option Object)) (n : ℕ) → has (present_from i objects) n ≡ true → At i objects n
present_at i [] n there = has_none n there
present_at i (None ∷ objects) n there = at_next i None objects n (present_at (i + 1) objects n there)
present_at i (Some o ∷ objects) n there =
    ⊎_elim
    (λ is. record { k = 0; object = o; is = omega (arith, is); there = refl })
    (λ later. at_next i (Some o) objects n (present_at (i + 1) objects n later))
    (has-cons i (present_from (i + 1) objects) n there)

at_present : (i : ℕ) (objects : List (Option Object)) (k : ℕ) (o : Object) (n : ℕ) → i + k ≡ n → slot_at objects k ≡ Some o → has (present_from i objects) n ≡ true
at_present i [] k o n is there = none_is_some (slot_at [] k) o refl there
at_present i (None ∷ objects) zero o n is there = none_is_some (slot_at (None ∷ objects) zero) o refl there
at_present i (None ∷ objects) (suc k) o n is there = at_present (i + 1) objects k o n (omega (arith, is)) there
at_present i (Some p ∷ objects) zero o n is there = let here : i ≡ n = omega (arith, is) in subst (λ x. has (i ∷ present_from (i + 1) objects) x ≡ true) here (has_head i (present_from (i + 1) objects))
at_present i (Some p ∷ objects) (suc k) o n is there = has_tail i (present_from (i + 1) objects) n (at_present (i + 1) objects k o n (omega (arith, is)) there)

present_distinct : (i : ℕ) (objects : List (Option Object)) → IsDistinct nat_eq (present_from i objects)
unfolding IsDistinct
present_distinct i [] = tt
present_distinct i (None ∷ objects) = present_distinct (i + 1) objects
present_distinct i (Some o ∷ objects) =
    (apart_from_absent i (present_from (i + 1) objects) (λ y there same. let at = present_at (i + 1) objects y there in absurd (omega (arith, at.is, same))), present_distinct (i + 1) objects)

sum_of_present : (w : ℕ → ℕ) (v : Object → ℕ) (i : ℕ) (objects : List (Option Object)) → ((k : ℕ) (o : Object) → slot_at objects k ≡ Some o → w (i + k) ≡ v o) → sum_by w (present_from i objects) ≡ sum_by v (filter_map (λ x. x) objects)
sum_of_present w v i [] same = refl
sum_of_present w v i (None ∷ objects) same =
    sum_of_present w v (i + 1) objects (λ k o there. let step : i + 1 + k ≡ i + suc k = omega arith in ap w step ∙ same (suc k) o there)
sum_of_present w v i (Some o ∷ objects) same =
    let rest : sum_by w (present_from (i + 1) objects) ≡ sum_by v (filter_map (λ x. x) objects) =
    sum_of_present w v (i + 1) objects (λ k p there. let step : i + 1 + k ≡ i + suc k = omega arith in ap w step ∙ same (suc k) p there) in
    let first : i + 0 ≡ i = omega arith in
    let here : w i ≡ v o = ap w (sym first) ∙ same zero o refl in
    sum_by-cons w i (present_from (i + 1) objects) ∙ (λ j. here j + rest j) ∙ sym (sum_by-cons v o (filter_map (λ x. x) objects))

sum_of_map : (w f : ℕ → ℕ) (xs : List ℕ) → sum_by w (map f xs) ≡ sum_by (λ n. w (f n)) xs
sum_of_map w f [] = refl
sum_of_map w f (x ∷ xs) =
    sum_by-cons w (f x) (map f xs) ∙ ap (λ n. w (f x) + n) (sum_of_map w f xs) ∙ sym (sum_by-cons (λ n. w (f n)) x xs)

-- the names of the objects present
abbrev pub present_names : Store → List ℕ
present_names store = present_from 0 store.objects

pub name_present : (store : Store) (name : ℕ) (o : Object) → object_at store name ≡ Some o → has (present_names store) name ≡ true
name_present store name o there = at_present 0 store.objects name o name (omega arith) (sym (at_slot store.objects name) ∙ there)

pub present_name : (store : Store) (name : ℕ) → has (present_names store) name ≡ true → (o : Object) × (object_at store name ≡ Some o)
present_name store name there =
    let at = present_at 0 store.objects name there in
    let is : at.k ≡ name = omega (arith, at.is) in
    (at.object, at_slot store.objects name ∙ ap (slot_at store.objects) (sym is) ∙ at.there)

present_short : (i : ℕ) (objects : List (Option Object)) → length (present_from i objects) ≤ length objects
present_short i [] = omega arith
present_short i (None ∷ objects) = omega (arith, present_short (i + 1) objects)
present_short i (Some o ∷ objects) = omega (arith, present_short (i + 1) objects)

pub few_present : (store : Store) → length (present_names store) ≤ length store.objects
few_present store = present_short 0 store.objects

module _ (store : Store) (place : ℕ → ℕ) (heap : Graph) (placed : IsPlaced store place heap) where
  pub places_distinct : IsDistinct nat_eq (map place (present_names store))
  places_distinct =
      IsDistinct-map place (present_names store)
      (λ a b there_a there_b same.
      let o = present_name store a there_a in
      let p = present_name store b there_b in
      placed.one_to_one a b o.0 p.0 o.1 p.1 same)
      (present_distinct 0 store.objects)

  pub same_keys : SameMembers (map place (present_names store)) (keys heap.objects)
  same_keys = record {
    there = λ q there.
        let from = has_map_of place (present_names store) q there in
        let o = present_name store from.0 from.1 in
        has_key heap.objects q (renamed_object place o.0) (ap (graph.object_at heap) (sym from.2) ∙ placed.objects from.0 o.0 o.1);
    back = λ q there.
        let o = key_has heap.objects q there in
        let from = placed.no_others q o.0 o.1 in
        subst (λ k. has (map place (present_names store)) k ≡ true) from.1.1.1 (has_map place (present_names store) from.0 (name_present store from.0 from.1.0 from.1.1.0));
  }

  -- as many as the heap has objects
  pub same_number : length (present_names store) ≡ len heap.objects
  same_number =
      sym (length-map (present_names store) place) ∙ same_length (map place (present_names store)) (keys heap.objects) places_distinct (keys_distinct heap.objects) same_keys
      ∙ keys_count (entries heap.objects) ∙ sym (len-entries heap.objects)

  -- a sum over the objects of the heap is one over those of the store
  pub same_sum : (W V : Object → ℕ) → ((name : ℕ) (o : Object) → object_at store name ≡ Some o → W (renamed_object place o) ≡ V o) → sum_by W (values heap.objects) ≡ sum_by V (present store)
  same_sum W V same =
      let w : ℕ → ℕ = λ k. option_map_or W (get heap.objects k) 0 in
      sum_of_values W heap.objects
      ∙ sym (same_sum_by (map place (present_names store)) (keys heap.objects) places_distinct (keys_distinct heap.objects) same_keys w)
      ∙ sum_of_map w place (present_names store)
      ∙ sum_of_present (λ n. w (place n)) V 0 store.objects
      (λ k o there.
      let none : 0 + k ≡ k = omega arith in
      let at : object_at store k ≡ Some o = at_slot store.objects k ∙ there in
      ap (λ n. w (place n)) none ∙ ap (λ x. option_map_or W x 0) (placed.objects k o at) ∙ same k o at)

  -- how many of the names stand for an object of generation at most g
  pub young_count : (g : ℕ) → length (filter (is_young_name heap g) (map place (present_names store))) ≡ count_by (λ o. nat_le o.generation g) (present store)
  young_count g =
      length-filter (is_young_name heap g) (map place (present_names store))
      ∙ sum_of_map (λ k. cond (is_young_name heap g k) 1 0) place (present_names store)
      ∙ sum_of_present (λ n. cond (is_young_name heap g (place n)) 1 0) (λ o. cond (nat_le o.generation g) 1 0) 0 store.objects
      (λ k o there.
      let none : 0 + k ≡ k = omega arith in
      let at : object_at store k ≡ Some o = at_slot store.objects k ∙ there in
      ap (λ n. cond (is_young_name heap g (place n)) 1 0) none ∙ ap (λ x. cond (option_map_or (λ (y : Object). nat_le y.generation g) x false) 1 0) (placed.objects k o at))
