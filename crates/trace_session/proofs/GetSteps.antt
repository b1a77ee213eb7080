-- What a new name for what a pointer leads to does to a session that stands for a store.
use Rattle.std.proofs.Common.{◌≡◌, ◌∙◌, ℕ, List, [], length, Option, Some, None, Ok, Err, refl, sym, ap, subst, ⊎_elim}
use Rattle.std.specs.Prelude.{◌↔◌, IsSome, IsSomeAnd, IsOk, OnOk, is_ok, is_some, Result}
use Rattle.std.proofs.lemmas.Bool.{cases_eq}
use Rattle.std.proofs.str.Laws.{order}
use Rattle.std.specs.Ordering.{nat_cmp}
use Rattle.std.specs.FinMap.{FinMap, get, insert, remove}
use Rattle.model.specs.Graph.{root_at, without_root}
use Rattle.model.proofs.NatMap.{get-insert_same, get-insert_other, get-remove_same, get-remove_other, same_nat_map}
use Rattle.std.proofs.lemmas.Option.{slice_get_past}
use Rattle.model.specs.declared.kind.Kind.TheVariants.{NameInUse, UnknownName, NoField, NilPointer}
use Rattle.model.specs.Config.{Config}
use Rattle.model.specs.Store.{Store}
use Rattle.model.specs.Commands.{Get, with_name}
use Rattle.heap.specs.HeapValue.{HeapValue}
use Rattle.heap.specs.Commands.{HasPointer, Loads, pointer_of}
use Rattle.trace_session.specs.Outcome.{command_step}
use Rattle.trace_session.specs.Sound.{IsSoundCommand}
use Rattle.trace_session.specs.Stepped.{StepsQuietly}
use Rattle.trace_session.specs.NamesView.{named}
use Rattle.trace_session.specs.Stands.{StandsFor, LeadsTo}
use Rattle.trace_session.proofs.StandsLoaded.{Pointed, pointed, nil_there, stands_loaded}
use Rattle.trace_session.proofs.NamedLemmas.{added}
use Rattle.trace_session.proofs.FieldSteps.{has_pointer}

-- a root that was not there is taken out again
removed_again : (m : FinMap nat_cmp ℕ) (k v : ℕ) → get m k ≡ None → remove (insert m k v) k ≡ m
removed_again m k v free =
    same_nat_map _ _ (λ q. ⊎_elim
    (λ e. rw e (get-remove_same (insert m k v) k ∙ sym free))
    (λ ne. get-remove_other (insert m k v) k q ne ∙ get-insert_other m k v q ne)
    (cases_eq q k))

-- the heap is as before once the root that a load made is given up
pub given_up : (heap after : HeapValue) (root i new_root : ℕ) → Loads heap root i (Some new_root) after → record after { graph = without_root after.graph new_root } ≡ heap
given_up heap after root i new_root loads =
    let adds = loads.2 in
    rw adds.change (ap (λ roots. record heap { graph = record heap.graph { roots = roots } }) (removed_again heap.graph.roots new_root loads.0 adds.new_root))

-- and it is given up, since it was there
pub is_given_up : {X E : Type 0} (r : Result X E) (heap after last : HeapValue) (root i new_root : ℕ) → Loads heap root i (Some new_root) after → IsOk r ↔ IsSome (root_at after.graph new_root) → OnOk r (last ≡ record after { graph = without_root after.graph new_root }) → last ≡ heap
is_given_up (Ok x) heap after last root i new_root loads known gone = gone ∙ given_up heap after root i new_root loads
is_given_up (Err e) heap after last root i new_root loads known gone =
    let adds = loads.2 in
    let there : IsSome (root_at after.graph new_root) = rw adds.change (ap is_some (get-insert_same heap.graph.roots new_root loads.0)) in
    let bad = known.1 there in
    absurd (cc)

module _ (heap : HeapValue) (names : List (List ℕ × ℕ)) (config : Config) (store : Store) (stands : StandsFor heap names config store) (new_text text : List ℕ) (i : ℕ) where
  pub get_in_use : (root : ℕ) → named names new_text ≡ Some root → command_step config store (Get new_text text i) ≡ Err NameInUse
  get_in_use root found = let leads = stands.names_are.leads new_text root found in rw leads.named_is refl

  module _ (free : named names new_text ≡ None) where
    abbrev unused : named store.names new_text ≡ None
    unused = stands.names_are.free new_text free

    pub get_unknown : named names text ≡ None → command_step config store (Get new_text text i) ≡ Err UnknownName
    get_unknown unknown = let none = stands.names_are.free text unknown in rw (unused, none) refl

    module _ (root : ℕ) (used : named names text ≡ Some root) where
      abbrev leads : LeadsTo store stands.place heap.graph text root
      leads = stands.names_are.leads text root used

      pub get_no_field : (HasPointer heap.graph root i → ⊥) → command_step config store (Get new_text text i) ≡ Err NoField
      get_no_field missing =
          ⊎_elim
          (λ lt. absurd (missing (has_pointer heap names config store stands text root used i lt)))
          (λ le. let past = slice_get_past leads.object.pointers i le in rw (unused, leads.named_is, leads.there, past) refl)
          (order i (length leads.object.pointers))

      get_is : (at : ℕ) (to : Pointed heap names config store stands text root used i at) → command_step config store (Get new_text text i) ≡ Ok (with_name new_text to.target store, [])
      get_is at to = let field = to.field in rw (unused, leads.named_is, leads.there, field) refl

      get_sound_to : (at : ℕ) → pointer_of heap.graph root i ≡ Some (Some at) → IsSoundCommand config store (Get new_text text i)
      get_sound_to at is = ap is_ok (get_is at (pointed heap names config store stands text root used i at is))

      -- of a pointer that isn't nil
      pub get_sound : IsSomeAnd (pointer_of heap.graph root i) (λ target. IsSome target) → IsSoundCommand config store (Get new_text text i)
      get_sound not_nil = go (pointer_of heap.graph root i) refl not_nil
        where
          go : (p : Option (Option ℕ)) → pointer_of heap.graph root i ≡ p → IsSomeAnd p (λ target. IsSome target) → IsSoundCommand config store (Get new_text text i)
          go None is h = absurd h
          go (Some None) is h = absurd (cc)
          go (Some (Some at)) is h = get_sound_to at is

      -- what was loaded
      module _ (heap' : HeapValue) (loaded : Option ℕ) (loads : Loads heap root i loaded heap') where
        pub get_nil : loaded ≡ None → command_step config store (Get new_text text i) ≡ Err NilPointer
        get_nil none =
            let is = (subst (λ r. Loads heap root i r heap') none loads).0 in
            let nil = nil_there heap names config store stands text root used i is in
            rw (unused, leads.named_is, leads.there, nil) refl

        pub steps_get : (new_root : ℕ) (names' : List (List ℕ × ℕ)) → loaded ≡ Some new_root → names' ≡ added names new_text new_root → StepsQuietly (StandsFor heap' names') config (command_step config store (Get new_text text i))
        steps_get new_root names' some names_are =
            let some_loads = subst (λ r. Loads heap root i r heap') some loads in
            let to = pointed heap names config store stands text root used i some_loads.0 some_loads.1 in
            record {
              next = with_name new_text to.target store;
              steps = get_is some_loads.0 to;
              stands' = subst (λ n. StandsFor heap' n config (with_name new_text to.target store)) (sym names_are) (stands_loaded heap names config store stands text root used i new_text free some_loads.0 new_root heap' some_loads.1 to some_loads.2);
            }

        pub loaded_sound : (new_root : ℕ) → loaded ≡ Some new_root → IsSoundCommand config store (Get new_text text i)
        loaded_sound new_root some = let some_loads = subst (λ r. Loads heap root i r heap') some loads in get_sound_to some_loads.0 some_loads.1
