-- A heap stays whole.
use Rattle.std.proofs.Common.{◌≡◌, ℕ, ◌<◌, Bool, true, false, cond, List, [], length, Option, Some, None, refl, sym, ap, subst, ◌∙◌, arith}
use Rattle.std.proofs.lemmas.Bool.{true≢false}
use Rattle.std.proofs.lemmas.List.{length-replicate}
use Rattle.std.specs.Option.{option_map_or, option_and_then}
use Rattle.std.specs.Prelude.{nat_eq}
use Rattle.std.specs.Ordering.{nat_cmp}
use Rattle.std.specs.FinMap.{get, insert, empty, get-empty}
use Rattle.model.specs.Config.{Config}
use Rattle.model.specs.Graph.{Object, IsClosed, with_pointer, with_object, with_root, fresh_object}
use Rattle.model.specs.Census.{points_younger}
use Rattle.model.specs.Reached.{has}
use Rattle.model.proofs.ClosedLemmas.{closed_empty, closed_fresh}
use Rattle.layout.specs.declared.place.Place.{Place}
use Rattle.steps.specs.HeapValue.{HeapValue, empty_heap}
use Rattle.heap_objects.specs.Objects.{ObjectsValue, heap_in}
use Rattle.heap_objects.specs.Sound.{AreObjects}
use Rattle.heap_objects.proofs.WithRoots.{objects_at}
use Rattle.heap.specs.Roots.{roots_map}
use Rattle.heap.specs.HeapView.{heap_of, heap_with}
use Rattle.heap.specs.IsHeap.{IsHeap, AreHeapObjects}
use Rattle.remembered_set.specs.Sets.{members_of, noted}
use Rattle.heap.proofs.Grown.{grown_same, grown_noted, noted_has}
use Rattle.heap.specs.Growth.{AreGrown}
use Rattle.heap.specs.Whole.{IsWhole}
use Rattle.heap.specs.Commands.{AllocatesSmall, AllocatesLarge, leads_younger, remembered_after, value_at}
use Rattle.heap.proofs.Covering.{covers-fresh, covers-same_pointers, covers-stored}
use Rattle.heap.proofs.Storing.{Held, pointer_stored, plain_stored}

-- the objects make a sound heap with any roots and remembered sets
module _ (objects : ObjectsValue) (slots : List (Option Place)) (sets : List (List ℕ)) where
  pub objects_are : AreObjects (heap_in objects) → IsClosed (heap_with objects slots sets).graph → AreHeapObjects (heap_with objects slots sets)
  objects_are sound closed = record { sound = objects_at objects empty (roots_map slots) [] sets sound; closed = closed }

  pub heap_is : AreObjects (heap_in objects) → IsWhole (heap_with objects slots sets) → IsHeap (heap_with objects slots sets)
  heap_is sound whole = record {
    blocks = objects_are sound whole.closed;
    sets = whole.sets;
    remembered = whole.covers;
  }

pub whole_empty : (config : Config) → IsWhole (empty_heap config)
whole_empty config = record {
  closed = closed_empty;
  sets = length-replicate {A = List ℕ} config.shape.generations [];
  covers = λ h name holder. absurd (true≢false (sym holder ∙ ap (λ found. option_map_or (points_younger (get (empty_heap config).graph.objects)) (option_and_then (λ o. cond (nat_eq o.generation h) (Some o) None) found) false) (get-empty nat_cmp name)));
}

-- a new object leads nowhere
module _ (objects : ObjectsValue) (slots : List (Option Place)) (sets : List (List ℕ)) (p q key : ℕ) (new : HeapValue) (whole : IsWhole (heap_with objects slots sets)) where
  abbrev heap : HeapValue
  heap = heap_with objects slots sets

  pub whole_small : (mutator : ℕ) → AllocatesSmall heap mutator p q key new → IsWhole new
  whole_small mutator made =
      rw made.change record {
        closed = closed_fresh heap.graph key made.name p q whole.closed;
        sets = whole.sets;
        covers = covers-fresh heap.graph (with_root (with_object heap.graph made.name (fresh_object p q)) key made.name) sets made.name p q whole.closed made.new_name refl (grown_same sets sets refl) whole.covers;
      }

  pub whole_large : AllocatesLarge heap p q key new → IsWhole new
  whole_large made =
      rw made.change record {
        closed = closed_fresh heap.graph key made.name p q whole.closed;
        sets = whole.sets;
        covers = covers-fresh heap.graph (with_root (with_object heap.graph made.name (fresh_object p q)) key made.name) sets made.name p q whole.closed made.new_name refl (grown_same sets sets refl) whole.covers;
      }

-- the sets after a store
module _ (heap : HeapValue) (name : ℕ) (holder : Object) (value : Option ℕ) (in_range : holder.generation < length heap.remembered) where
  pub after_grown : AreGrown heap.remembered (remembered_after heap name holder value)
  after_grown = go (leads_younger heap.graph holder value)
    where
      go : (b : Bool) → AreGrown heap.remembered (cond b (noted heap.remembered holder.generation name) heap.remembered)
      go true = grown_noted heap.remembered holder.generation name in_range
      go false = grown_same heap.remembered heap.remembered refl

  pub after_has : leads_younger heap.graph holder value ≡ true → has (members_of (remembered_after heap name holder value) holder.generation) name ≡ true
  after_has leads = ap (λ b. has (members_of (cond b (noted heap.remembered holder.generation name) heap.remembered) holder.generation) name) leads ∙ noted_has heap.remembered holder.generation name in_range

module _ (objects objects' : ObjectsValue) (slots : List (Option Place)) (sets : List (List ℕ)) (root name : ℕ) (sound : AreObjects (heap_in objects)) (whole : IsWhole (heap_with objects slots sets)) (h : Held (heap_of objects slots).graph root name) where
  pub whole_put : (plain : List ℕ) → objects' ≡ record objects { objects = insert objects.objects name (record h.object { plain = plain }) } → IsWhole (heap_with objects' slots sets)
  whole_put plain changed = record {
    closed = plain_stored objects objects' slots root name whole.closed h plain changed;
    sets = whole.sets ∙ ap (λ s. s.config.shape.generations) (sym changed);
    covers = covers-same_pointers (heap_with objects slots sets).graph (heap_with objects' slots sets).graph sets name h.object (record h.object { plain = plain }) h.there refl refl (ap (λ s. s.objects) changed) (grown_same sets sets refl) whole.covers;
  }

  pub whole_stored : (i : ℕ) (value to : Option ℕ) (sets' : List (List ℕ)) → to ≡ value_at (heap_of objects slots).graph value → objects' ≡ record objects { objects = insert objects.objects name (with_pointer h.object i to) } → sets' ≡ remembered_after (heap_with objects slots sets) name h.object to → IsWhole (heap_with objects' slots sets')
  whole_stored i value to sets' is changed after =
      let in_range : h.object.generation < length sets = omega (arith, (sound.objects name h.object h.there).step.generation, whole.sets) in
      let grown = subst (AreGrown sets) (sym after) (after_grown (heap_with objects slots sets) name h.object to in_range) in
      let noted_now : leads_younger (heap_with objects slots sets).graph h.object to ≡ true → has (members_of sets' h.object.generation) name ≡ true = λ leads. ap (λ ss. has (members_of ss h.object.generation) name) after ∙ after_has (heap_with objects slots sets) name h.object to in_range leads in
      record {
        closed = pointer_stored objects objects' slots root name whole.closed h i value to is changed;
        sets = grown.generations ∙ whole.sets ∙ ap (λ s. s.config.shape.generations) (sym changed);
        covers = covers-stored (heap_with objects slots sets).graph (heap_with objects' slots sets').graph sets sets' name i h.object to h.there (ap (λ s. s.objects) changed) grown noted_now whole.covers;
      }
