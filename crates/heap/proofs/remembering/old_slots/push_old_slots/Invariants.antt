use Rattle.std.proofs.Common.{◌≡◌, ◌≤◌, ◌+◌, ◌-◌, ◌++◌, map, length, max}
use Rattle.std.specs.Prelude.{flat_map}
use Rattle.model.specs.Destination.{numbers_from}
use Rattle.model.specs.OldSlots.{slots_of_generation}
use Rattle.steps.specs.CollectionValue.{field_slot_of}
use Rattle.steps.specs.SlotView.{slot_value}
use Rattle.heap_objects.specs.Objects.{graph_in}
use Rattle.heap.proofs.remembering.old_slots.push_old_slots.Given as goal

-- the slots of the generations so far
abbrev pub invariant-loop-h : goal.invariant-loop-h
invariant-loop-h g l = record {
  low : l.generation + 1 ≤ l.h;
  high : l.h ≤ max (l.generation + 1) (length l.sets);
  pushed : map slot_value l.slots.items ≡ map slot_value l.fn.slots.items ++ map field_slot_of (flat_map (slots_of_generation (graph_in l.objects) l.generation) (numbers_from (l.generation + 1) (l.h - (l.generation + 1))));
}
