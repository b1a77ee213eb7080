-- What a change of an object's field leaves of a heap.
use Rattle.std.proofs.Common.{◌≡◌, ℕ, List, Option, Some, None, refl, sym, ap, ◌∙◌}
use Rattle.std.specs.Option.{option_map}
use Rattle.std.specs.FinMap.{insert}
use Rattle.model.specs.Graph.{Graph, Object, object_at, root_at, with_pointer, IsClosed}
use Rattle.model.proofs.ClosedLemmas.{closed-with_pointer, closed_same_pointers}
use Rattle.layout.specs.declared.place.Place.{Place}
use Rattle.layout.specs.Place.{place_word}
use Rattle.heap.specs.Commands.{value_at}
use Rattle.heap.specs.HeapView.{heap_of}
use Rattle.heap_objects.specs.Objects.{ObjectsValue}

-- the object that a root leads to
pub record Held (graph : Graph) (root name : ℕ) : Type 0 where
  pub root_is : root_at graph root ≡ Some name
  pub object : Object
  pub there : object_at graph name ≡ Some object

pub held : (graph : Graph) (root : ℕ) (found : Option Place) (place : Place) → IsClosed graph → option_map place_word found ≡ root_at graph root → found ≡ Some place → Held graph root (place_word place)
held graph root found place closed at is =
    let root_is : root_at graph root ≡ Some (place_word place) = sym at ∙ ap (option_map place_word) is in
    let there = closed.roots root (place_word place) root_is in
    record { root_is = root_is; object = there.0; there = there.1 }

-- a value leads to an object, if it isn't nil
pub value_leads : (graph : Graph) (value : Option ℕ) (to : Option ℕ) → IsClosed graph → to ≡ value_at graph value → (target : ℕ) → to ≡ Some target → (x : Object) × (object_at graph target ≡ Some x)
value_leads graph None to closed is target e = let e' : ◌≡◌ {A = Option ℕ} None (Some target) = sym is ∙ e in absurd (cc)
value_leads graph (Some root) to closed is target e = closed.roots root target (sym is ∙ e)

module _ (objects objects' : ObjectsValue) (slots : List (Option Place)) (root name : ℕ) (closed : IsClosed (heap_of objects slots).graph) (h : Held (heap_of objects slots).graph root name) where
  pub pointer_stored : (i : ℕ) (value : Option ℕ) (to : Option ℕ) → to ≡ value_at (heap_of objects slots).graph value → objects' ≡ record objects { objects = insert objects.objects name (with_pointer h.object i to) } → IsClosed (heap_of objects' slots).graph
  pointer_stored i value to is changed =
      rw changed (closed-with_pointer (heap_of objects slots).graph name i h.object to closed h.there (value_leads (heap_of objects slots).graph value to closed is))

  pub plain_stored : (plain : List ℕ) → objects' ≡ record objects { objects = insert objects.objects name (record h.object { plain = plain }) } → IsClosed (heap_of objects' slots).graph
  plain_stored plain changed =
      rw changed (closed_same_pointers (heap_of objects slots).graph name h.object (record h.object { plain = plain }) closed h.there refl)
