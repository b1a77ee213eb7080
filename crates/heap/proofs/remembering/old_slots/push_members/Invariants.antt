use Rattle.std.proofs.Common.{◌≡◌, ◌++◌, map, take}
use Rattle.std.specs.Prelude.{flat_map}
use Rattle.layout.specs.Place.{place_word}
use Rattle.steps.specs.CollectionValue.{field_slot_of}
use Rattle.steps.specs.SlotView.{slot_value}
use Rattle.heap_objects.specs.HeapGraph.{slots_at}
use Rattle.heap_objects.specs.Objects.{graph_in}
use Rattle.heap.proofs.remembering.old_slots.push_members.Given as goal

-- the slots of the members so far
abbrev pub invariant-loop-k : goal.invariant-loop-k
invariant-loop-k g l = map slot_value l.slots.items ≡ map slot_value l.fn.slots.items ++ map field_slot_of (flat_map (slots_at (graph_in l.objects) l.g l.h) (map place_word (take l.k l.members)))
