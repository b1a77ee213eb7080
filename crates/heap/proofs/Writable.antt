-- Each pointer that a commit writes is there, in an object that stays.
use Rattle.std.proofs.Common.{◌≡◌, ℕ, ◌<◌, Bool, true, false, cond, List, ◌++◌, length, map, get_or, Option, Some, None, refl, sym, ap, subst, ◌∙◌, arith, inl, inr, ⊎_elim}
use Rattle.std.specs.Prelude.{All, IsSomeAnd, nat_lt, slice_get}
use Rattle.std.specs.Option.{option_and_then}
use Rattle.std.specs.FinMap.{get, entries}
use Rattle.model.specs.Graph.{Object, IsClosed, field_at}
use Rattle.model.specs.Destination.{Shape, dest}
use Rattle.model.specs.OldSlots.{Slot, old_slots}
use Rattle.model.proofs.Among.{Among, Contains-among, among_either}
use Rattle.layout.specs.declared.place.Place.{Place}
use Rattle.block_pool.specs.BlockValue.{BlockValue}
use Rattle.steps.specs.CollectionValue.{CollectionValue, field_slot_of}
use Rattle.steps.specs.SettledValue.{IsSettled}
use Rattle.heap_objects.specs.Objects.{ObjectsValue, heap_in}
use Rattle.heap_objects.specs.Collecting.{IsReplaced, Stays, aged, at_step}
use Rattle.heap_objects.specs.Sound.{AreObjects}
use Rattle.heap_objects.proofs.Sound.{get_below}
use Rattle.heap.specs.Installed.{CanWrite}
use Rattle.heap.specs.LargeSlots.{AreLargeSlots}
use Rattle.heap.specs.HeapView.{heap_of}
use Rattle.heap.specs.Moves.{writes_by}
use Rattle.heap.specs.Roots.{roots_map}
use Rattle.heap.proofs.SettledLemmas.{all_among, old_slot, large_field}
use Rattle.heap.proofs.Committed.{writes_among, fields_among}

module _ (objects : ObjectsValue) (slots : List (Option Place)) (collection : CollectionValue) (places : List (Option Place)) (blocks : List BlockValue) (won : List (ℕ × ℕ))
    (sound : AreObjects (heap_in objects)) (closed : IsClosed (heap_of objects slots).graph) (settled : IsSettled (heap_of objects slots) collection places blocks won)
    (found : List Slot) (large : AreLargeSlots objects collection.generation places found) (f : ℕ → ℕ) where
  at_field : (name i target : ℕ) (o : Object) → get objects.objects name ≡ Some o → field_at (heap_of objects slots).graph name i ≡ Some (Some target) → i < length o.pointers
  at_field name i target o is leads = get_below o.pointers i (Some target) (sym (ap (option_and_then (λ (x : Object). slice_get x.pointers i)) is) ∙ leads)

  can_write : (name i target : ℕ) (o : Object) → get objects.objects name ≡ Some o → Stays objects collection.generation places name o → field_at (heap_of objects slots).graph name i ≡ Some (Some target) → CanWrite objects collection.generation places (name, (i, f target))
  can_write name i target o is stays leads =
      subst (λ x. IsSomeAnd x (λ y. Stays objects collection.generation places name y × (i < length y.pointers))) (sym is) (stays, at_field name i target o is leads)

  old_one : (w : ℕ × (ℕ × ℕ)) → Among w (writes_by f collection.slots) → CanWrite objects collection.generation places w
  old_one w h =
      let from = writes_among f (entries (roots_map slots)) (old_slots (heap_of objects slots).graph objects.config.shape.generations collection.generation) w (subst (λ ss. Among w (writes_by f ss)) settled.opened.slots h) in
      let old = (old_slot objects slots collection places blocks won sound closed settled from.0 from.1).old in
      rw from.2 (can_write from.0.holder from.0.field from.0.target old.holder.object old.holder.there (inl old.holder.older) old.leads)

  large_one : (w : ℕ × (ℕ × ℕ)) → Among w (writes_by f (map field_slot_of found)) → CanWrite objects collection.generation places w
  large_one w h =
      let from = fields_among f found w h in
      let is = large.only from.0 (Contains-among found from.0 from.1) in
      rw from.2 (can_write from.0.holder from.0.field from.0.target is.holder is.there (inr (is.large, is.kept)) (large_field objects slots collection places blocks won sound closed settled from.0 is))

  pub writable : All (CanWrite objects collection.generation places) (writes_by f collection.slots ++ writes_by f (map field_slot_of found))
  writable =
      all_among (CanWrite objects collection.generation places) (writes_by f collection.slots ++ writes_by f (map field_slot_of found))
      (λ w h. ⊎_elim (old_one w) (large_one w) (among_either (writes_by f collection.slots) (writes_by f (map field_slot_of found)) w h))

length-aged : (shape : Shape) (g : ℕ) (o : Object) → length (aged shape g o).pointers ≡ length o.pointers
length-aged shape g o = go (nat_lt g o.generation)
  where
    go : (b : Bool) → length (cond b o (at_step o (dest shape (o.generation, o.step)))).pointers ≡ length o.pointers
    go true = refl
    go false = refl

-- they are there after the blocks were exchanged
pub still_there : (old : ObjectsValue) (g : ℕ) (blocks : List BlockValue) (places : List (Option Place)) (new : ObjectsValue) (ws : List (ℕ × (ℕ × ℕ))) → IsReplaced old g blocks places new → All (CanWrite old g places) ws → All (λ w. IsSomeAnd (get new.objects w.0) (λ o. w.1.0 < length o.pointers)) ws
still_there old g blocks places new ws replaces all = λ k d lt. go (get_or ws k d) (get old.objects (get_or ws k d).0) refl (all k d lt)
  where
    go : (w : ℕ × (ℕ × ℕ)) (o : Option Object) → get old.objects w.0 ≡ o → IsSomeAnd o (λ x. Stays old g places w.0 x × (w.1.0 < length x.pointers)) → IsSomeAnd (get new.objects w.0) (λ x. w.1.0 < length x.pointers)
    go w None is h = absurd h
    go w (Some x) is h =
        subst (λ o. IsSomeAnd o (λ y. w.1.0 < length y.pointers)) (sym (replaces.stayed w.0 x is h.0)) (omega (arith, h.1, length-aged old.config.shape g x))
