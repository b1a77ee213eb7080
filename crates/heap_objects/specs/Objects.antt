-- What contracts see of a heap's objects, small and large, and of its blocks.
use Rattle.std.specs.Prelude.{◌≡◌, ℕ, ◌+◌, ◌-◌, List, [], ◌∷◌, Option, Some, None, take, drop, slice_get, slice_set, option_and_then, refl}
use Rattle.std.specs.Ordering.{nat_cmp}
use Rattle.std.specs.FinMap.{FinMap, empty, get, insert, from_entries, code}
use Rattle.std.specs.Coded.{Coded, code_by, coded×, coded_ℕ, coded_list}
use Rattle.model.specs.Graph.{Graph, Object, fresh_object}
use Rattle.model.specs.GraphCode.{object_code}
use Rattle.model.specs.Config.{Config, config_code}
use Rattle.model.specs.Destination.{numbers_from}
use Rattle.model.specs.Room.{Room, room_after}
use Rattle.model.specs.Store.{full_rooms}
use Rattle.layout.specs.Header.{size_of}
use Rattle.layout.specs.Place.{large_word}
use Rattle.steps.specs.HeapValue.{HeapValue, room_code, nursery_count}
use Rattle.large_objects.specs.LargeValue.{LargeObject, LargeValue, block_count}
use Rattle.heap_objects.specs.WithLarge.{with_large}
use Rattle.heap_objects.specs.Space.{SpaceValue}

-- the objects; the room of each mutator's nursery; the free blocks, rising; the blocks of each large object
pub record ObjectsValue : Type 0 where
  pub config : Config
  pub objects : FinMap nat_cmp Object
  pub rooms : List Room
  pub free : List ℕ
  pub large_blocks : FinMap nat_cmp (List ℕ)

abbrev pub objects_code : Coded ObjectsValue
objects_code =
    code_by
    (Config × (FinMap nat_cmp Object × (List Room × (List ℕ × FinMap nat_cmp (List ℕ)))))
    (coded× config_code (coded× (code coded_ℕ object_code) (coded× (coded_list room_code) (coded× (coded_list coded_ℕ) (code coded_ℕ (coded_list coded_ℕ))))))
    (λ o. (o.config, (o.objects, (o.rooms, (o.free, o.large_blocks)))))
    (λ p. record { config = p.0; objects = p.1.0; rooms = p.1.1.0; free = p.1.1.1.0; large_blocks = p.1.1.1.1 })
    (λ _. refl)

-- the blocks of the large objects by place, where the first has this number
abbrev pub block_entries : ℕ → List (Option LargeObject) → List (ℕ × List ℕ)
block_entries number [] = []
block_entries number (None ∷ slots) = block_entries (number + 1) slots
block_entries number (Some large ∷ slots) = (large_word number, large.blocks) ∷ block_entries (number + 1) slots

-- the small objects of the blocks, and the large ones
abbrev pub objects_of : SpaceValue → LargeValue → ObjectsValue
objects_of space large =
    record {
      config = space.config;
      objects = with_large space.objects large.slots;
      rooms = space.rooms;
      free = space.free;
      large_blocks = from_entries (block_entries 0 large.slots);
    }

-- its objects, as a graph with no root
abbrev pub graph_in : ObjectsValue → Graph
graph_in objects = record { objects = objects.objects; roots = empty }

-- the heap of these objects, with no root and no remembered set
abbrev pub heap_in : ObjectsValue → HeapValue
heap_in objects =
    record {
      config = objects.config;
      graph = graph_in objects;
      rooms = objects.rooms;
      free = objects.free;
      large_blocks = objects.large_blocks;
      remembered = [];
    }

-- no object yet: the blocks after those of the nurseries are free
abbrev pub empty_objects : Config → ObjectsValue
empty_objects config =
    record {
      config = config;
      objects = empty;
      rooms = full_rooms config;
      free = numbers_from (nursery_count config) (config.blocks - nursery_count config);
      large_blocks = empty;
    }

-- the room of a mutator's nursery after a small object of so many words, where it has room
abbrev pub room_in : ObjectsValue → ℕ → ℕ → Option Room
room_in objects mutator size = option_and_then (λ room. room_after objects.config.block_words room size) (slice_get objects.rooms mutator)

-- a new small object at a new name
pub record AllocatesSmall (old : ObjectsValue) (mutator p q name : ℕ) (new : ObjectsValue) : Type 0 where
  pub room : Room
  pub new_name : get old.objects name ≡ None
  pub has_room : room_in old mutator (1 + p + q) ≡ Some room
  pub change : new ≡ record old { objects = insert old.objects name (fresh_object p q); rooms = slice_set old.rooms mutator room }

-- how many blocks a large object takes
abbrev pub wanted : Config → ℕ → ℕ → ℕ
wanted config p q = block_count (size_of p q) config.block_words

-- a new large object at a new name, in the first free blocks
pub record AllocatesLarge (old : ObjectsValue) (p q name : ℕ) (new : ObjectsValue) : Type 0 where
  pub new_name : get old.objects name ≡ None
  pub change : new ≡ record old {
    objects = insert old.objects name (fresh_object p q);
    free = drop (wanted old.config p q) old.free;
    large_blocks = insert old.large_blocks name (take (wanted old.config p q) old.free);
  }
