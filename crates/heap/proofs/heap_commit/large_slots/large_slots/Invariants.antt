use Rattle.std.proofs.Common.{◌≤◌, ◌-◌, map}
use Rattle.steps.specs.SlotView.{slot_value}
use Rattle.heap.proofs.KeptSlots.{AreDone}
use Rattle.heap.proofs.heap_commit.large_slots.large_slots.Given as goal

-- the pointers of the large objects with a number below `from` are there
abbrev pub invariant-loop-number : goal.invariant-loop-number
invariant-loop-number g l = record {
  done : AreDone l.objects l.g l.places l.from (map slot_value l.slots.items);
  in_range : l.from ≤ 65535;
}

abbrev pub decreases-loop-number : goal.decreases-loop-number
decreases-loop-number g l = 65535 - l.from
