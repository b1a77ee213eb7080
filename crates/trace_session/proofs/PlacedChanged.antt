-- An object that is changed in a store and in the heap that stands for it.
use Rattle.std.proofs.Common.{◌≡◌, ◌≢◌, ℕ, true, List, Some, sym, ap, subst, ◌∙◌, ⊎_elim}
use Rattle.std.proofs.lemmas.Bool.{cases_eq}
use Rattle.model.specs.Graph as graph
use Rattle.model.specs.Graph.{Graph, Object}
use Rattle.model.specs.Reached.{has}
use Rattle.model.specs.Store.{Store, object_at, targets}
use Rattle.model.specs.Commands.{with_object}
use Rattle.model.proofs.SlotMap.{slot_at-set_same, slot_at-set_other}
use Rattle.model.proofs.NatMap.{get-insert_same, get-insert_other}
use Rattle.trace_session.specs.Stands.{renamed_object, IsPlaced, IsNamed}
use Rattle.trace_session.proofs.StoreObjects.{at_slot, object_below}
use Rattle.trace_session.proofs.NamedLemmas.{one_value}

-- the object o of a name becomes o', whose pointers lead to objects
module _ (store : Store) (place : ℕ → ℕ) (heap : Graph) (placed : IsPlaced store place heap) (name : ℕ) (o o' : Object) (there : object_at store name ≡ Some o) (leads : (target : ℕ) → has (targets o') target ≡ true → (p : Object) × (object_at store target ≡ Some p)) where
  abbrev store' : Store
  store' = with_object name o' store

  abbrev heap' : Graph
  heap' = graph.with_object heap (place name) (renamed_object place o')

  object_same : object_at store' name ≡ Some o'
  object_same = at_slot store'.objects name ∙ slot_at-set_same store.objects name (Some o') (object_below store name o there)

  object_other : (n : ℕ) → n ≢ name → object_at store' n ≡ object_at store n
  object_other n ne = at_slot store'.objects n ∙ slot_at-set_other store.objects name n (Some o') ne ∙ sym (at_slot store.objects n)

  -- an object that was there is there, as it was or changed
  stays : (n : ℕ) (x : Object) → object_at store n ≡ Some x → (y : Object) × (object_at store' n ≡ Some y)
  stays n x at = ⊎_elim (λ e. (o', ap (object_at store') e ∙ object_same)) (λ ne. (x, object_other n ne ∙ at)) (cases_eq n name)

  was_there : (n : ℕ) (y : Object) → object_at store' n ≡ Some y → (x : Object) × (object_at store n ≡ Some x)
  was_there n y at = ⊎_elim (λ e. (o, ap (object_at store) e ∙ there)) (λ ne. (y, sym (object_other n ne) ∙ at)) (cases_eq n name)

  changed_is : (n : ℕ) (y : Object) → n ≡ name → object_at store' n ≡ Some y → o' ≡ y
  changed_is n y e at = one_value (object_at store' name) o' y object_same (subst (λ k. object_at store' k ≡ Some y) e at)

  objects' : (n : ℕ) (y : Object) → object_at store' n ≡ Some y → graph.object_at heap' (place n) ≡ Some (renamed_object place y)
  objects' n y at =
      ⊎_elim
      (λ e.
      ap (λ k. graph.object_at heap' (place k)) e ∙ get-insert_same heap.objects (place name) (renamed_object place o')
      ∙ ap (λ x. Some (renamed_object place x)) (changed_is n y e at))
      (λ ne.
      let before = sym (object_other n ne) ∙ at in
      get-insert_other heap.objects (place name) (renamed_object place o') (place n) (λ e. ne (placed.one_to_one n name y o before there e))
      ∙ placed.objects n y before)
      (cases_eq n name)

  no_others' : (k : ℕ) (x : Object) → graph.object_at heap' k ≡ Some x → (n : ℕ) × ((y : Object) × ((object_at store' n ≡ Some y) × (place n ≡ k)))
  no_others' k x found =
      ⊎_elim
      (λ e. (name, (o', (object_same, sym e))))
      (λ ne.
      let from = placed.no_others k x (sym (get-insert_other heap.objects (place name) (renamed_object place o') k ne) ∙ found) in
      let now = stays from.0 from.1.0 from.1.1.0 in
      (from.0, (now.0, (now.1, from.1.1.1))))
      (cases_eq k (place name))

  one_to_one' : (a b : ℕ) (x y : Object) → object_at store' a ≡ Some x → object_at store' b ≡ Some y → place a ≡ place b → a ≡ b
  one_to_one' a b x y at_a at_b same =
      let was_a = was_there a x at_a in
      let was_b = was_there b y at_b in
      placed.one_to_one a b was_a.0 was_b.0 was_a.1 was_b.1 same

  closed' : (n target : ℕ) (y : Object) → object_at store' n ≡ Some y → has (targets y) target ≡ true → (x : Object) × (object_at store' target ≡ Some x)
  closed' n target y at points =
      let to : (x : Object) × (object_at store target ≡ Some x) =
      ⊎_elim
      (λ e. leads target (subst (λ x. has (targets x) target ≡ true) (sym (changed_is n y e at)) points))
      (λ ne. placed.closed n target y (sym (object_other n ne) ∙ at) points)
      (cases_eq n name) in
      stays target to.0 to.1

  pub placed_changed : IsPlaced store' place heap'
  placed_changed = record { objects = objects'; no_others = no_others'; one_to_one = one_to_one'; closed = closed' }

  pub named_changed : (names : List (List ℕ × ℕ)) → IsNamed store place heap names → IsNamed store' place heap' names
  named_changed names before = record {
    leads = λ text root found.
        let l = before.leads text root found in
        let now = stays l.name l.object l.there in
        record { name = l.name; object = now.0; named_is = l.named_is; there = now.1; root_is = l.root_is };
    free = before.free;
    apart = before.apart;
    no_others = before.no_others;
    sorted = before.sorted;
    count = before.count;
  }
