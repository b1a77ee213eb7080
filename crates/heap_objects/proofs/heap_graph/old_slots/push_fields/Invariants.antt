use Rattle.std.proofs.Common.{◌≡◌, ◌++◌, map, take}
use Rattle.std.specs.Prelude.{All}
use Rattle.model.specs.Graph.{Graph}
use Rattle.model.specs.OldSlots.{slots_of_fields}
use Rattle.layout.specs.Place.{place_word}
use Rattle.steps.specs.CollectionValue.{field_slot_of}
use Rattle.steps.specs.SlotView.{slot_value}
use Rattle.steps.specs.Words.{target_of_word}
use Rattle.heap_objects.specs.HeapGraph.{IsHeapGraph, IsClosedWord}
use Rattle.heap_objects.proofs.heap_graph.old_slots.push_fields.Given as goal

-- the slots of the fields so far
abbrev pub invariant-loop-field : goal.invariant-loop-field
invariant-loop-field g l = (graph : Graph) → IsHeapGraph graph l.table l.large → All (IsClosedWord graph) l.pointers → map slot_value l.slots.items ≡ map slot_value l.fn.slots.items ++ map field_slot_of (slots_of_fields graph l.g (place_word l.holder) 0 (map target_of_word (take l.field l.pointers)))
