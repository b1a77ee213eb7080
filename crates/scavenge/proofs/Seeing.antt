-- What a worker knows of its current slot is what the slot holds.
use Rattle.std.proofs.Common.{◌≡◌, ℕ, List, [], ◌∷◌, Option, Some, None, refl, sym}
use Rattle.std.specs.Prelude.{slice_get}
use Rattle.std.specs.Option.{option_map, option_and_then}
use Rattle.model.specs.Graph.{IsClosed}
use Rattle.heap.specs.HeapValue.{HeapValue}
use Rattle.heap.specs.NamesArePlaces.{NamesArePlaces}
use Rattle.workers.specs.Block.{Copy, front_copy}
use Rattle.workers.specs.Setting.{Setting, old_field}
use Rattle.workers.specs.Worker.{Worker, Hand, Nothing, Open, Holding, HoldingLarge, allocation_at, current_object, current_in}
use Rattle.workers.specs.WorkerSteps.{current_slot, slot_of_starts}
use Rattle.workers.specs.Ready.{copy_in, HoldsOld, IsUntouched}
use Rattle.scavenge.specs.Shown.{KnownSlot, Holds, OfLarge, HoldsPointer, CanRead, known_in, known_from, known_slot}
use Rattle.scavenge.specs.Slots.{objects_of}

-- with the heap all is known
abbrev pub slot_seen : Setting → KnownSlot → Option (Option ℕ)
slot_seen setting (Holds slot) = slot
slot_seen setting (OfLarge name i) = old_field setting name i

pub seen_is : (setting : Setting) (w : Worker) → IsUntouched setting w → slot_seen setting (known_slot w) ≡ current_slot setting w
seen_is setting w u = on_starts w.starts
  where
    on_copy : (c : Option Copy) → HoldsOld setting w.fields c
        → option_and_then (λ (x : Copy). slice_get x.pointers w.fields) c ≡ option_and_then (λ (p : ℕ × ℕ). old_field setting p.0 w.fields) (option_map (λ (x : Copy). (x.name, x.place)) c)
    on_copy None h = refl
    on_copy (Some copy) h = h

    on_hand : (hand : Hand) → HoldsOld setting w.fields (copy_in w hand) → slot_seen setting (known_in w hand) ≡ option_and_then (λ (p : ℕ × ℕ). old_field setting p.0 w.fields) (current_in w hand)
    on_hand Nothing h = refl
    on_hand (Open d) h = on_copy (option_and_then front_copy (allocation_at w d)) h
    on_hand (Holding block) h = on_copy (front_copy block) h
    on_hand (HoldingLarge name) h = refl

    on_starts : (xs : List ℕ) → slot_seen setting (known_from w xs) ≡ slot_of_starts setting (current_object w) w.fields xs
    on_starts [] = on_hand w.hand u
    on_starts (x ∷ xs) = refl

pub can_read : (heap : HeapValue) (w : Worker) → IsClosed heap.graph → NamesArePlaces heap.graph → IsUntouched (objects_of heap) w → CanRead w w.starts
can_read heap w closed places u = on_starts w.starts
  where
    on_pointer : (name : ℕ) (o : Option (Option ℕ)) → o ≡ old_field (objects_of heap) name w.fields → HoldsPointer (Holds o)
    on_pointer name None e = tt
    on_pointer name (Some None) e = tt
    on_pointer name (Some (Some word)) e =
        let o = closed.fields name w.fields word (sym e) in
        let p = places word o.0 o.1 in
        (Some p.0, p.1)

    on_copy : (c : Option Copy) → HoldsOld (objects_of heap) w.fields c → HoldsPointer (Holds (option_and_then (λ (x : Copy). slice_get x.pointers w.fields) c))
    on_copy None h = tt
    on_copy (Some copy) h = on_pointer copy.name (slice_get copy.pointers w.fields) h

    on_hand : (hand : Hand) → HoldsOld (objects_of heap) w.fields (copy_in w hand) → HoldsPointer (known_in w hand)
    on_hand Nothing h = tt
    on_hand (Open d) h = on_copy (option_and_then front_copy (allocation_at w d)) h
    on_hand (Holding block) h = on_copy (front_copy block) h
    on_hand (HoldingLarge name) h = tt

    on_starts : (xs : List ℕ) → CanRead w xs
    on_starts [] = on_hand w.hand u
    on_starts (x ∷ xs) = tt
