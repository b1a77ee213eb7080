-- What the commands on fields do to a session that stands for a store.
use Rattle.std.proofs.Common.{◌≡◌, ℕ, ◌<◌, ◌≤◌, true, false, List, [], length, Option, Some, None, Ok, Err, refl, sym, ap, subst, ◌∙◌, arith, ⊎_elim}
use Rattle.std.specs.Prelude.{nat_lt, slice_set, map, IsSome, IsNone, IsSomeAnd, is_some, is_ok, option_and_then}
use Rattle.std.specs.Option.{option_map}
use Rattle.std.proofs.str.Laws.{order}
use Rattle.std.proofs.lemmas.Bool.{true≢false, lt-ltb, cases_Bool, ltb-true}
use Rattle.std.proofs.lemmas.List.{length-map}
use Rattle.model.specs.declared.kind.Kind.TheVariants.{UnknownName, NoField}
use Rattle.model.specs.Graph as graph
use Rattle.model.specs.Graph.{Graph, Object, root_at, with_pointer}
use Rattle.model.specs.Reached.{has}
use Rattle.model.specs.Config.{Config}
use Rattle.model.specs.Store.{Store, object_at, targets}
use Rattle.model.specs.Commands.{Set, Put, Outcome, with_object, silent, on_target, on_known}
use Rattle.heap.specs.HeapValue.{HeapValue}
use Rattle.heap.specs.Commands.{Changes, Stores, HasPointer, HasPlain, IsValue, value_at, rooted_object}
use Rattle.trace_session.specs.Outcome.{command_step}
use Rattle.trace_session.specs.Sound.{IsSoundCommand}
use Rattle.trace_session.specs.Stepped.{StepsQuietly}
use Rattle.trace_session.specs.Targets.{IsRootOf, IsUnknown}
use Rattle.trace_session.specs.NamesView.{named}
use Rattle.trace_session.specs.Made.{MadeByCalls, stored, written}
use Rattle.trace_session.specs.Stands.{StandsFor, renamed_object, LeadsTo}
use Rattle.trace_session.proofs.NamedLemmas.{one_value}
use Rattle.trace_session.proofs.PlacedChanged.{placed_changed, named_changed}
use Rattle.trace_session.proofs.FieldLemmas.{renamed_pointer, pointer_led}

not_below : (i n : ℕ) → n ≤ i → nat_lt i n ≡ false
not_below i n le = ⊎_elim (λ t. let lt = ltb-true i n t in absurd (omega (arith, lt, le))) (λ f. f) (cases_Bool (nat_lt i n))

module _ (heap : HeapValue) (names : List (List ℕ × ℕ)) (config : Config) (store : Store) (stands : StandsFor heap names config store) where
  abbrev place : ℕ → ℕ
  place = stands.place

  abbrev Leads : List ℕ → ℕ → Type 0
  Leads text root = LeadsTo store place heap.graph text root

  abbrev leads_of : (text : List ℕ) (root : ℕ) → named names text ≡ Some root → Leads text root
  leads_of text root found = stands.names_are.leads text root found

  -- what a pointer is set to, in the heap and in the store
  pub record ValueOf (target : Option (List ℕ)) (r : Option ℕ) : Type 0 where
    pub value : Option ℕ
    pub heap_value : value_at heap.graph r ≡ option_map place value
    pub leads_to : (t : ℕ) → value ≡ Some t → (p : Object) × (object_at store t ≡ Some p)
    pub step : (next : Option ℕ → Outcome) → on_target store target next ≡ next value
    pub known : IsValue heap.graph r

  pub value_of : (target : Option (List ℕ)) (r : Option ℕ) → IsRootOf names target r → ValueOf target r
  value_of None r is = record {
    value = None;
    heap_value = ap (value_at heap.graph) is;
    leads_to = λ t e. absurd (cc);
    step = λ next. refl;
    known = subst (IsValue heap.graph) (sym is) tt;
  }
  value_of (Some text) r (number, (is, found)) =
      let l = leads_of text number found in
      record {
        value = Some l.name;
        heap_value = ap (value_at heap.graph) is ∙ l.root_is;
        leads_to = λ t e. (let same : l.name ≡ t = cc (e) in (l.object, subst (λ k. object_at store k ≡ Some l.object) same l.there));
        step = λ next. ap (on_known next) l.named_is;
        known = subst (IsValue heap.graph) (sym is) (ap is_some l.root_is);
      }

  module _ (text : List ℕ) (root : ℕ) (used : named names text ≡ Some root) where
    abbrev leads : Leads text root
    leads = leads_of text root used

    abbrev o : Object
    o = leads.object

    pub rooted : IsSome (root_at heap.graph root)
    rooted = ap is_some leads.root_is

    pub never_unrooted : IsNone (root_at heap.graph root) → ⊥
    never_unrooted none = true≢false (sym rooted ∙ none)

    rooted_is : rooted_object heap.graph root ≡ Some (renamed_object place o)
    rooted_is = ap (option_and_then (graph.object_at heap.graph)) leads.root_is ∙ stands.placed.objects leads.name o leads.there

    -- the heap's object has as many pointers and plain words as the store's
    pub has_pointer : (i : ℕ) → i < length o.pointers → HasPointer heap.graph root i
    has_pointer i lt =
        let same = length-map o.pointers (option_map place) in
        let below : i < length (map (option_map place) o.pointers) = omega (arith, lt, same) in
        subst (λ r. IsSomeAnd r (λ (x : Object). i < length x.pointers)) (sym rooted_is) below

    pointer_has : (i : ℕ) → HasPointer heap.graph root i → i < length o.pointers
    pointer_has i h =
        let below : i < length (map (option_map place) o.pointers) = subst (λ r. IsSomeAnd r (λ (x : Object). i < length x.pointers)) rooted_is h in
        let same = length-map o.pointers (option_map place) in
        omega (arith, below, same)

    has_plain : (i : ℕ) → i < length o.plain → HasPlain heap.graph root i
    has_plain i lt = subst (λ r. IsSomeAnd r (λ (x : Object). i < length x.plain)) (sym rooted_is) lt

    plain_has : (i : ℕ) → HasPlain heap.graph root i → i < length o.plain
    plain_has i h = subst (λ r. IsSomeAnd r (λ (x : Object). i < length x.plain)) rooted_is h

    -- a field that isn't missing is there
    pub pointer_there : (i : ℕ) → (IsSome (root_at heap.graph root) × ¬ (HasPointer heap.graph root i) → ⊥) → HasPointer heap.graph root i
    pointer_there i not_missing =
        ⊎_elim
        (λ lt. has_pointer i lt)
        (λ le. absurd (not_missing (rooted, λ h. let lt = pointer_has i h in absurd (omega (arith, lt, le)))))
        (order i (length o.pointers))

    -- the heap with a changed object stands for the store with the same change
    changed : (change : Object → Object) (o' : Object) → change (renamed_object place o) ≡ renamed_object place o' → ((target : ℕ) → has (targets o') target ≡ true → (p : Object) × (object_at store target ≡ Some p)) → (heap' : HeapValue) → MadeByCalls heap' → (name : ℕ) (object : Object) (sets : List (List ℕ)) → root_at heap.graph root ≡ Some name → graph.object_at heap.graph name ≡ Some object → heap' ≡ record heap { graph = graph.with_object heap.graph name (change object); remembered = sets } → StandsFor heap' names config (with_object leads.name o' store)
    changed change o' alike leads_to heap' is_made name object sets root_is there is =
        let at : name ≡ place leads.name = one_value (root_at heap.graph root) name (place leads.name) root_is leads.root_is in
        let object_is : object ≡ renamed_object place o =
        one_value (graph.object_at heap.graph (place leads.name)) object (renamed_object place o)
        (subst (λ k. graph.object_at heap.graph k ≡ Some object) at there)
        (stands.placed.objects leads.name o leads.there) in
        let heap_is : heap' ≡ record heap { graph = graph.with_object heap.graph (place leads.name) (renamed_object place o'); remembered = sets } =
        is
        ∙ (λ i. record heap { graph = graph.with_object heap.graph (at i) (change (object_is i)); remembered = sets })
        ∙ ap (λ x. record heap { graph = graph.with_object heap.graph (place leads.name) x; remembered = sets }) alike in
        subst (λ h. StandsFor h names config (with_object leads.name o' store)) (sym heap_is)
        (record {
          made = subst MadeByCalls heap_is is_made;
          config_is = stands.config_is;
          rooms_are = stands.rooms_are;
          place = place;
          placed = placed_changed store place heap.graph stands.placed leads.name o o' leads.there leads_to;
          names_are = named_changed store place heap.graph stands.placed leads.name o o' leads.there leads_to names stands.names_are;
        })

    module _ (i : ℕ) (target : Option (List ℕ)) where
      pub set_no_field : (HasPointer heap.graph root i → ⊥) → command_step config store (Set text i target) ≡ Err NoField
      set_no_field missing =
          ⊎_elim
          (λ lt. absurd (missing (has_pointer i lt)))
          (λ le. let past = not_below i (length o.pointers) le in rw (leads.named_is, leads.there, past) refl)
          (order i (length o.pointers))

      -- the step where the field is there
      set_at : HasPointer heap.graph root i → command_step config store (Set text i target) ≡ on_target store target (λ value. silent (with_object leads.name (with_pointer o i value) store))
      set_at h =
          let known = lt-ltb i (length o.pointers) (pointer_has i h) in
          rw (leads.named_is, leads.there, known) refl

      set_is : (r : Option ℕ) (v : ValueOf target r) → HasPointer heap.graph root i → command_step config store (Set text i target) ≡ Ok (with_object leads.name (with_pointer o i v.value) store, [])
      set_is r v h = set_at h ∙ v.step (λ value. silent (with_object leads.name (with_pointer o i value) store))

      pub steps_set : (r : Option ℕ) (heap' : HeapValue) → IsRootOf names target r → HasPointer heap.graph root i → Stores heap root i r heap' → StepsQuietly (StandsFor heap' names) config (command_step config store (Set text i target))
      steps_set r heap' is h changes =
          let v = value_of target r is in
          record {
            next = with_object leads.name (with_pointer o i v.value) store;
            steps = set_is r v h;
            stands' =
                changed (λ x. with_pointer x i (value_at heap.graph r)) (with_pointer o i v.value)
                (ap (with_pointer (renamed_object place o) i) v.heap_value ∙ renamed_pointer place o i v.value)
                (λ t points. ⊎_elim (λ e. v.leads_to t e) (λ before. stands.placed.closed leads.name t o leads.there before) (pointer_led o i v.value t points))
                heap' (stored root i r stands.made v.known changes) changes.name changes.object _ changes.root_is changes.there changes.changed;
          }

      pub set_sound : (r : Option ℕ) → IsRootOf names target r → HasPointer heap.graph root i → IsSoundCommand config store (Set text i target)
      set_sound r is h = ap is_ok (set_is r (value_of target r is) h)

    set_unknown_target : (i : ℕ) (other : List ℕ) → HasPointer heap.graph root i → named names other ≡ None → command_step config store (Set text i (Some other)) ≡ Err UnknownName
    set_unknown_target i other h free =
        set_at i (Some other) h
        ∙ ap (on_known (λ value. silent (with_object leads.name (with_pointer o i value) store))) (stands.names_are.free other free)

    pub unknown_target : (i : ℕ) (target : Option (List ℕ)) → HasPointer heap.graph root i → IsUnknown names target → command_step config store (Set text i target) ≡ Err UnknownName
    unknown_target i None h unknown = absurd unknown
    unknown_target i (Some other) h unknown = set_unknown_target i other h unknown

    module _ (i value : ℕ) where
      pub put_no_field : (HasPlain heap.graph root i → ⊥) → command_step config store (Put text i value) ≡ Err NoField
      put_no_field missing =
          ⊎_elim
          (λ lt. absurd (missing (has_plain i lt)))
          (λ le. let past = not_below i (length o.plain) le in rw (leads.named_is, leads.there, past) refl)
          (order i (length o.plain))

      pub steps_put : (heap' : HeapValue) → HasPlain heap.graph root i → Changes heap root (λ x. record x { plain = slice_set x.plain i value }) heap' → StepsQuietly (StandsFor heap' names) config (command_step config store (Put text i value))
      steps_put heap' h changes =
          let known = lt-ltb i (length o.plain) (plain_has i h) in
          record {
            next = with_object leads.name (record o { plain = slice_set o.plain i value }) store;
            steps = rw (leads.named_is, leads.there, known) refl;
            stands' =
                changed (λ x. record x { plain = slice_set x.plain i value }) (record o { plain = slice_set o.plain i value }) refl
                (λ t points. stands.placed.closed leads.name t o leads.there points) heap' (written root i value stands.made changes) changes.name changes.object heap.remembered changes.root_is changes.there changes.changed;
          }
