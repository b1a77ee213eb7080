-- The pointers of the large objects that a collection keeps.
use Rattle.std.specs.Prelude.{◌≡◌, ℕ, ◌≤◌, List, [], Option, Some, IsTrue, IsSome, Contains, slice_get, is_some, nat_le, ◌&&◌, if◌then◌else◌}
use Rattle.std.specs.Option.{option_map_or}
use Rattle.std.specs.FinMap.{get}
use Rattle.model.specs.Graph.{Object, is_large}
use Rattle.model.specs.Live.{IsYoung}
use Rattle.model.specs.OldSlots.{Slot, slots_of_fields}
use Rattle.layout.specs.declared.place.Place.{Place}
use Rattle.heap_objects.specs.Objects.{ObjectsValue, graph_in}
use Rattle.heap_objects.specs.Collecting.{new_place}

-- a pointer of a large object of generation at most g that has a new place, to an object of generation at most g
pub record IsLargeSlot (objects : ObjectsValue) (g : ℕ) (places : List (Option Place)) (slot : Slot) : Type 0 where
  pub holder : Object
  pub there : get objects.objects slot.holder ≡ Some holder
  pub young : holder.generation ≤ g
  pub large : IsTrue (is_large objects.config.block_words holder)
  pub kept : IsSome (new_place objects g places slot.holder)
  pub leads : slice_get holder.pointers slot.field ≡ Some (Some slot.target)
  pub to_young : IsYoung (graph_in objects) g slot.target

-- each of these pointers, and no other
pub record AreLargeSlots (objects : ObjectsValue) (g : ℕ) (places : List (Option Place)) (slots : List Slot) : Type 0 where
  pub only : (slot : Slot) → Contains slots slot → IsLargeSlot objects g places slot
  pub all : (slot : Slot) → IsLargeSlot objects g places slot → Contains slots slot

-- the pointers of the object of that name to objects of generation at most g, where its own generation is at most g and it
-- has a new place
abbrev pub kept_slots : ObjectsValue → ℕ → List (Option Place) → ℕ → List Slot
kept_slots objects g places name =
    option_map_or
    (λ o. if nat_le o.generation g && is_some (new_place objects g places name) then slots_of_fields (graph_in objects) g name 0 o.pointers else [])
    (get objects.objects name)
    []
