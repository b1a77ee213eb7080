-- What a load of a pointer reads, and the root that it adds.
use Rattle.std.proofs.Common.{◌≡◌, ℕ, ◌<◌, Bool, true, false, cond, List, length, Option, Some, None, refl, sym, ap, ◌∙◌, arith}
use Rattle.std.specs.Prelude.{IsSomeAnd, nat_lt, slice_get, slice_index_or, option_and_then}
use Rattle.std.proofs.lemmas.Bool.{ltb-false}
use Rattle.std.proofs.lemmas.Option.{slice_get_read, slice_get-map}
use Rattle.std.specs.Option.{option_map}
use Rattle.std.specs.FinMap.{insert}
use Rattle.model.specs.Graph.{Graph, Object, object_at, root_at, IsClosed}
use Rattle.layout.specs.declared.place.Place.{Place}
use Rattle.layout.specs.Object.{Raw}
use Rattle.layout.specs.Place.{place_word, pointer_word}
use Rattle.steps.specs.HeapValue.{HeapValue}
use Rattle.steps.specs.Words.{IsShownAs, target_of_word}
use Rattle.heap.specs.HeapView.{heap_of, heap_with}
use Rattle.heap.specs.IsHeap.{AreHeapObjects}
use Rattle.heap.specs.Roots.{roots_map}
use Rattle.heap_objects.specs.Objects.{ObjectsValue}
use Rattle.heap.specs.Commands.{pointer_of, AddsRoot}
use Rattle.model.proofs.ClosedLemmas.{field_is, closed-with_root}
use Rattle.model.proofs.Options.{some_is}
use Rattle.nursery.proofs.TableSteps.{get_or_any}
use Rattle.heap.proofs.RootMap.{get-roots}
use Rattle.heap.proofs.SoundHeap.{objects_places}

-- the pointer of that word, which leads where the graph's pointer does
pub record Reads (graph : Graph) (root i word : ℕ) : Type 0 where
  pub pointer : Option Place
  pub word_is : pointer_word pointer ≡ word
  pub leads : pointer_of graph root i ≡ Some (option_map place_word pointer)

module _ (heap : HeapValue) (sound : AreHeapObjects heap) (root name i word : ℕ) (root_is : root_at heap.graph root ≡ Some name) where
  at_word : (o : Object) → object_at heap.graph name ≡ Some o → slice_get o.pointers i ≡ Some (target_of_word word) → (b : Bool) → nat_lt 0 word ≡ b → pointer_of heap.graph root i ≡ Some (cond b (Some word) None) → Reads heap.graph root i word
  at_word o there field false e leads = record { pointer = None; word_is = omega (arith, ltb-false 0 word e); leads = leads }
  at_word o there field true e leads =
      let target : target_of_word word ≡ Some word = ap (λ b. cond b (Some word) None) e in
      let to = sound.closed.fields name i word (field_is heap.graph name i word o there (field ∙ ap (λ t. Some t) target)) in
      let stands = objects_places heap sound.sound word to.0 to.1 in
      record { pointer = Some stands.0; word_is = stands.1; leads = leads ∙ ap (λ w. Some (Some w)) (sym stands.1) }

  at_object : (o : Object) → object_at heap.graph name ≡ Some o → slice_get o.pointers i ≡ Some (target_of_word word) → Reads heap.graph root i word
  at_object o there field =
      let leads : pointer_of heap.graph root i ≡ Some (target_of_word word) =
      ap (λ r. option_and_then (λ (x : Object). slice_get x.pointers i) (option_and_then (object_at heap.graph) r)) root_is
      ∙ ap (option_and_then (λ (x : Object). slice_get x.pointers i)) there ∙ field in
      at_word o there field (nat_lt 0 word) refl (leads)

  shown_at : (found : Option Object) (raw : Raw) → object_at heap.graph name ≡ found → IsSomeAnd found (λ o. IsShownAs o raw) → slice_get raw.pointers i ≡ Some word → Reads heap.graph root i word
  shown_at None raw is shown there = absurd shown
  shown_at (Some o) raw is shown there =
      at_object o is (ap (λ ps. slice_get ps i) (sym shown.pointers) ∙ slice_get-map target_of_word raw.pointers i ∙ ap (option_map target_of_word) there)

-- a pointer of a root's object, from the words of that object
pub reads : (heap : HeapValue) → AreHeapObjects heap → (root name i : ℕ) (raw : Raw) → root_at heap.graph root ≡ Some name → IsSomeAnd (object_at heap.graph name) (λ o. IsShownAs o raw) → i < length raw.pointers → Reads heap.graph root i (slice_index_or raw.pointers i 0)
reads heap sound root name i raw root_is shown in_range =
    let word = slice_index_or raw.pointers i 0 in
    shown_at heap sound root name i word root_is (object_at heap.graph name) raw refl shown (slice_get_read raw.pointers (length raw.pointers) i word refl in_range (get_or_any raw.pointers i 0 word in_range))

pub same_pointer : (graph : Graph) (root i word : ℕ) (pointer : Option Place) (read : Reads graph root i word) → Some pointer ≡ Some read.pointer → pointer_of graph root i ≡ Some (option_map place_word pointer)
same_pointer graph root i word pointer read same = read.leads ∙ ap (λ p. Some (option_map place_word p)) (sym (some_is same))

pub pointer_leads : (graph : Graph) (root i : ℕ) (pointer : Option Place) (place : Place) → pointer_of graph root i ≡ Some (option_map place_word pointer) → pointer ≡ Some place → pointer_of graph root i ≡ Some (Some (place_word place))
pointer_leads graph root i pointer place leads is = leads ∙ ap (λ p. Some (option_map place_word p)) is

-- what a pointer leads to is an object
target_there : (graph : Graph) → IsClosed graph → (root i name : ℕ) → pointer_of graph root i ≡ Some (Some name) → (o : Object) × (object_at graph name ≡ Some o)
target_there graph closed root i name leads = at_root (root_at graph root) leads
  where
    at_root : (at : Option ℕ) → option_and_then (λ (o : Object). slice_get o.pointers i) (option_and_then (object_at graph) at) ≡ Some (Some name) → (o : Object) × (object_at graph name ≡ Some o)
    at_root None e = absurd (cc)
    at_root (Some at) e = closed.fields at i name e

pub closed_loaded : (objects : ObjectsValue) (slots slots' : List (Option Place)) (root i key name : ℕ) → IsClosed (heap_of objects slots).graph → pointer_of (heap_of objects slots).graph root i ≡ Some (Some name) → roots_map slots' ≡ insert (roots_map slots) key name → IsClosed (heap_of objects slots').graph
closed_loaded objects slots slots' root i key name closed leads roots =
    let there = target_there (heap_of objects slots).graph closed root i name leads in
    rw roots (closed-with_root (heap_of objects slots).graph key name there.0 closed there.1)

pub adds_root : (objects : ObjectsValue) (slots slots' : List (Option Place)) (sets : List (List ℕ)) (key name : ℕ) → slice_index_or slots key None ≡ None → roots_map slots' ≡ insert (roots_map slots) key name → AddsRoot (heap_with objects slots sets) name key (heap_with objects slots' sets)
adds_root objects slots slots' sets key name vacant roots = record {
  new_root = get-roots slots key ∙ ap (option_map place_word) vacant;
  change = rw roots refl;
}
