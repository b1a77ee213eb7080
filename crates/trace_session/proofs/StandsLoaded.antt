-- A heap that stands for a store, with a free name for what a pointer of a named object leads to.
use Rattle.std.proofs.Common.{◌≡◌, ℕ, List, Option, Some, None, refl, sym, ap, subst, ◌∙◌}
use Rattle.std.specs.Prelude.{slice_get, option_and_then}
use Rattle.std.specs.Option.{option_map}
use Rattle.std.proofs.lemmas.Option.{slice_get-map}
use Rattle.model.specs.Graph as graph
use Rattle.model.specs.Graph.{Object}
use Rattle.model.specs.Config.{Config}
use Rattle.model.specs.Store.{Store, object_at}
use Rattle.model.specs.Commands.{with_name}
use Rattle.heap.specs.HeapValue.{HeapValue}
use Rattle.heap.specs.Commands.{AddsRoot, pointer_of}
use Rattle.trace_session.specs.NamesView.{named}
use Rattle.trace_session.specs.Made.{MadeByCalls, loaded}
use Rattle.trace_session.specs.Stands.{StandsFor, LeadsTo}
use Rattle.trace_session.proofs.StoreLists.{at_pointer}
use Rattle.trace_session.proofs.NamedAdded.{named_added}
use Rattle.trace_session.proofs.NamedLemmas.{added}

module _ (heap : HeapValue) (names : List (List ℕ × ℕ)) (config : Config) (store : Store) (stands : StandsFor heap names config store) (text : List ℕ) (root : ℕ) (used : named names text ≡ Some root) (i : ℕ) where
  abbrev place : ℕ → ℕ
  place = stands.place

  abbrev leads : LeadsTo store place heap.graph text root
  leads = stands.names_are.leads text root used

  abbrev pointers : List (Option ℕ)
  pointers = leads.object.pointers

  -- a pointer in the heap is the store's, renamed
  pointer_is : pointer_of heap.graph root i ≡ option_map (option_map place) (slice_get pointers i)
  pointer_is =
      ap (λ r. option_and_then (λ (x : Object). slice_get x.pointers i) (option_and_then (graph.object_at heap.graph) r)) leads.root_is
      ∙ ap (option_and_then (λ (x : Object). slice_get x.pointers i)) (stands.placed.objects leads.name leads.object leads.there)
      ∙ slice_get-map (option_map place) pointers i

  -- where it leads, in the store and in the heap
  pub record Pointed (at : ℕ) : Type 0 where
    pub target : ℕ
    pub object : Object
    pub field : slice_get pointers i ≡ Some (Some target)
    pub there : object_at store target ≡ Some object
    pub at_is : place target ≡ at

  pub pointed : (at : ℕ) → pointer_of heap.graph root i ≡ Some (Some at) → Pointed at
  pointed at is = go (slice_get pointers i) refl (sym pointer_is ∙ is)
    where
      go : (p : Option (Option ℕ)) → slice_get pointers i ≡ p → option_map (option_map place) p ≡ Some (Some at) → Pointed at
      go None field e = absurd (cc)
      go (Some None) field e = absurd (cc)
      go (Some (Some target)) field e =
          let to = stands.placed.closed leads.name target leads.object leads.there (at_pointer pointers i target field) in
          record { target = target; object = to.0; field = field; there = to.1; at_is = cc (e) }

  pub nil_there : pointer_of heap.graph root i ≡ Some None → slice_get pointers i ≡ Some None
  nil_there is = go (slice_get pointers i) refl (sym pointer_is ∙ is)
    where
      go : (p : Option (Option ℕ)) → slice_get pointers i ≡ p → option_map (option_map place) p ≡ Some None → slice_get pointers i ≡ Some None
      go None field e = absurd (cc)
      go (Some None) field e = field
      go (Some (Some target)) field e = absurd (cc)

  pub stands_loaded : (new_text : List ℕ) → named names new_text ≡ None → (at new_root : ℕ) (heap' : HeapValue) → pointer_of heap.graph root i ≡ Some (Some at) → (to : Pointed at) → AddsRoot heap at new_root heap' → StandsFor heap' (added names new_text new_root) config (with_name new_text to.target store)
  stands_loaded new_text free at new_root heap' is to adds =
      subst (λ h. StandsFor h (added names new_text new_root) config (with_name new_text to.target store)) (sym adds.change)
      (record {
        made = subst MadeByCalls adds.change (loaded at root i new_root stands.made is adds);
        config_is = stands.config_is;
        rooms_are = stands.rooms_are;
        place = place;
        placed = record {
          objects = stands.placed.objects;
          no_others = stands.placed.no_others;
          one_to_one = stands.placed.one_to_one;
          closed = stands.placed.closed;
        };
        names_are = named_added store place heap.graph names stands.names_are to.target to.object to.there at to.at_is new_root adds.new_root new_text free;
      })
