-- The heap that objects and roots make.
use Rattle.std.specs.Prelude.{ℕ, List, [], Option, IsSome, All}
use Rattle.std.specs.FinMap.{get}
use Rattle.layout.specs.declared.place.Place.{Place}
use Rattle.steps.specs.HeapValue.{HeapValue}
use Rattle.steps.specs.CollectionValue.{SlotValue, target_of_slot}
use Rattle.heap.specs.Roots.{roots_map}
use Rattle.heap_objects.specs.Objects.{ObjectsValue}

-- with the members of the remembered set of each generation
abbrev pub heap_with : ObjectsValue → List (Option Place) → List (List ℕ) → HeapValue
heap_with objects slots sets =
    record {
      config = objects.config;
      graph = record { objects = objects.objects; roots = roots_map slots };
      rooms = objects.rooms;
      free = objects.free;
      large_blocks = objects.large_blocks;
      remembered = sets;
    }

-- objects and roots alone
abbrev pub heap_of : ObjectsValue → List (Option Place) → HeapValue
heap_of objects slots = heap_with objects slots []

-- what each slot leads to is an object
abbrev pub SlotsLeadToObjects : ObjectsValue → List SlotValue → Type 0
SlotsLeadToObjects objects slots = All (λ slot. IsSome (get objects.objects (target_of_slot slot))) slots
