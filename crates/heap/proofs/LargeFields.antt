-- What the pointers of the large objects that a collection keeps lead to.
use Rattle.std.proofs.Common.{ℕ, List, map, Option, None, ap}
use Rattle.std.specs.Prelude.{IsSome, All, is_some, slice_index_or}
use Rattle.std.specs.FinMap.{get}
use Rattle.model.specs.OldSlots.{Slot}
use Rattle.model.proofs.Among.{Contains-among}
use Rattle.layout.specs.declared.place.Place.{Place}
use Rattle.steps.specs.CollectionValue.{field_slot_of, target_of_slot}
use Rattle.heap_objects.specs.Objects.{ObjectsValue}
use Rattle.heap_objects.specs.Collecting.{IsNumbered}
use Rattle.heap.specs.HeapView.{SlotsLeadToObjects}
use Rattle.heap.specs.LargeSlots.{IsLargeSlot, AreLargeSlots}
use Rattle.heap.proofs.SettledLemmas.{all_among, among_map}

-- the number of the object of that name, where it has one, has a new place
abbrev pub IsNamed : ObjectsValue → ℕ → List (Option Place) → ℕ → Type 0
IsNamed objects g places name = (number : ℕ) → IsNumbered objects g name number → IsSome (slice_index_or places number None)

module _ (objects : ObjectsValue) (g : ℕ) (places : List (Option Place)) (found : List Slot) (large : AreLargeSlots objects g places found) where
  each : (P : ℕ → Type 0) → ((slot : Slot) → IsLargeSlot objects g places slot → P slot.target) → All (λ slot. P (target_of_slot slot)) (map field_slot_of found)
  each P holds =
      all_among (λ slot. P (target_of_slot slot)) (map field_slot_of found)
      (λ slot h. let from = among_map field_slot_of found slot h in rw from.2 (holds from.0 (large.only from.0 (Contains-among found from.0 from.1))))

  pub large_lead : SlotsLeadToObjects objects (map field_slot_of found)
  large_lead = each (λ name. IsSome (get objects.objects name)) (λ slot is. ap is_some is.to_young.there)

  pub large_named : ((slot : Slot) → IsLargeSlot objects g places slot → IsNamed objects g places slot.target) → All (λ slot. IsNamed objects g places (target_of_slot slot)) (map field_slot_of found)
  large_named named = each (IsNamed objects g places) named
