-- A new object in a store and in the heap that stands for it.
use Rattle.std.proofs.Common.{◌≡◌, ◌≢◌, ℕ, true, cond, length, Some, None, refl, sym, ap, subst, ◌∙◌, arith, ⊎_elim}
use Rattle.std.specs.Prelude.{nat_eq}
use Rattle.std.proofs.lemmas.Bool.{true≢false, cases_eq, eq-eqb, ne_eqb}
use Rattle.model.specs.Graph as graph
use Rattle.model.specs.Graph.{Graph, Object, fresh_object, with_root}
use Rattle.model.specs.Reached.{has}
use Rattle.model.specs.Store.{Store, object_at, targets}
use Rattle.model.proofs.NatMap.{get-insert_same, get-insert_other}
use Rattle.trace_session.specs.Stands.{renamed_object, IsPlaced}
use Rattle.trace_session.proofs.StoreObjects.{with_object, object_below, object_at-new, object_at-other, same_renamed, renamed_fresh, fresh_leads_nowhere}

-- the place of each object when a new one, after n others, stands at a place
abbrev pub place_with : (ℕ → ℕ) → ℕ → ℕ → ℕ → ℕ
place_with place n at name = cond (nat_eq name n) at (place name)

pub place_with-same : (place : ℕ → ℕ) (n at : ℕ) → place_with place n at n ≡ at
place_with-same place n at = ap (λ b. cond b at (place n)) (eq-eqb n n refl)

pub place_with-other : (place : ℕ → ℕ) (n at name : ℕ) → name ≢ n → place_with place n at name ≡ place name
place_with-other place n at name ne = ap (λ b. cond b at (place name)) (ne_eqb name n ne)

module _ (store : Store) (place : ℕ → ℕ) (heap : Graph) (placed : IsPlaced store place heap) (p q at : ℕ) (absent : graph.object_at heap at ≡ None) where
  abbrev n : ℕ
  n = length store.objects

  abbrev store' : Store
  store' = with_object store (fresh_object p q)

  abbrev place' : ℕ → ℕ
  place' = place_with place n at

  abbrev heap' : Graph
  heap' = graph.with_object heap at (fresh_object p q)

  there_before : (name : ℕ) (o : Object) → object_at store name ≡ Some o → name ≢ n
  there_before name o there = λ e. let below = object_below store name o there in absurd (omega (arith, below, e))

  pub keeps_place : (name : ℕ) (o : Object) → object_at store name ≡ Some o → place' name ≡ place name
  keeps_place name o there = place_with-other place n at name (there_before name o there)

  pub keeps_object : (name : ℕ) (o : Object) → object_at store name ≡ Some o → object_at store' name ≡ Some o
  keeps_object name o there = object_at-other store (fresh_object p q) name (there_before name o there) ∙ there

  was_there : (name : ℕ) (o : Object) → name ≢ n → object_at store' name ≡ Some o → object_at store name ≡ Some o
  was_there name o ne there = sym (object_at-other store (fresh_object p q) name ne) ∙ there

  keeps_pointers : (name : ℕ) (o : Object) → object_at store name ≡ Some o → renamed_object place o ≡ renamed_object place' o
  keeps_pointers name o there =
      same_renamed place place' o (λ target points. let to = placed.closed name target o there points in sym (keeps_place target to.0 to.1))

  elsewhere : (name : ℕ) (o : Object) → object_at store name ≡ Some o → place name ≢ at
  elsewhere name o there = λ e.
      let found : graph.object_at heap at ≡ Some (renamed_object place o) = subst (λ k. graph.object_at heap k ≡ Some (renamed_object place o)) e (placed.objects name o there) in
      let both : None ≡ Some (renamed_object place o) = sym absent ∙ found in absurd (cc)

  objects' : (name : ℕ) (o : Object) → object_at store' name ≡ Some o → graph.object_at heap' (place' name) ≡ Some (renamed_object place' o)
  objects' name o there =
      ⊎_elim
      (λ e.
      let new_one : Some (fresh_object p q) ≡ Some o = sym (object_at-new store (fresh_object p q)) ∙ subst (λ k. object_at store' k ≡ Some o) e there in
      let o_is : fresh_object p q ≡ o = cc in
      let at_is : place' name ≡ at = ap place' e ∙ place_with-same place n at in
      rw at_is (get-insert_same heap.objects at (fresh_object p q) ∙ ap (λ x. Some x) (sym (renamed_fresh place' p q) ∙ ap (renamed_object place') o_is)))
      (λ ne.
      let before = was_there name o ne there in
      rw (keeps_place name o before) (get-insert_other heap.objects at (fresh_object p q) (place name) (elsewhere name o before) ∙ placed.objects name o before ∙ ap (λ x. Some x) (keeps_pointers name o before)))
      (cases_eq name n)

  no_others' : (k : ℕ) (o : Object) → graph.object_at heap' k ≡ Some o → (name : ℕ) × ((x : Object) × ((object_at store' name ≡ Some x) × (place' name ≡ k)))
  no_others' k o there =
      ⊎_elim
      (λ e. (n, (fresh_object p q, (object_at-new store (fresh_object p q), place_with-same place n at ∙ sym e))))
      (λ ne.
      let found = placed.no_others k o (sym (get-insert_other heap.objects at (fresh_object p q) k ne) ∙ there) in
      (found.0, (found.1.0, (keeps_object found.0 found.1.0 found.1.1.0, keeps_place found.0 found.1.0 found.1.1.0 ∙ found.1.1.1))))
      (cases_eq k at)

  one_to_one' : (a b : ℕ) (x y : Object) → object_at store' a ≡ Some x → object_at store' b ≡ Some y → place' a ≡ place' b → a ≡ b
  one_to_one' a b x y at_a at_b same =
      ⊎_elim
      (λ ea. ⊎_elim (λ eb. ea ∙ sym eb)
      (λ nb. let before = was_there b y nb at_b in
      absurd (elsewhere b y before (sym (keeps_place b y before) ∙ sym same ∙ ap place' ea ∙ place_with-same place n at)))
      (cases_eq b n))
      (λ na.
      let before_a = was_there a x na at_a in
      ⊎_elim
      (λ eb. absurd (elsewhere a x before_a (sym (keeps_place a x before_a) ∙ same ∙ ap place' eb ∙ place_with-same place n at)))
      (λ nb. let before_b = was_there b y nb at_b in
      placed.one_to_one a b x y before_a before_b (sym (keeps_place a x before_a) ∙ same ∙ keeps_place b y before_b))
      (cases_eq b n))
      (cases_eq a n)

  closed' : (name target : ℕ) (o : Object) → object_at store' name ≡ Some o → has (targets o) target ≡ true → (x : Object) × (object_at store' target ≡ Some x)
  closed' name target o there points =
      ⊎_elim
      (λ e.
      let new_one : Some (fresh_object p q) ≡ Some o = sym (object_at-new store (fresh_object p q)) ∙ subst (λ k. object_at store' k ≡ Some o) e there in
      let o_is : o ≡ fresh_object p q = cc in
      let points_fresh : has (targets (fresh_object p q)) target ≡ true = subst (λ x. has (targets x) target ≡ true) o_is points in
      absurd (true≢false (sym points_fresh ∙ fresh_leads_nowhere p q target)))
      (λ ne. let to = placed.closed name target o (was_there name o ne there) points in (to.0, keeps_object target to.0 to.1))
      (cases_eq name n)

  pub placed_new : IsPlaced store' place' heap'
  placed_new = record { objects = objects'; no_others = no_others'; one_to_one = one_to_one'; closed = closed' }
