use Rattle.std.proofs.Common.{◌≡◌, ◌-◌, ◌++◌, length, map}
use Rattle.std.specs.FinMap.{entries}
use Rattle.steps.specs.CollectionValue.{root_slot}
use Rattle.steps.specs.SlotView.{slot_value}
use Rattle.heap.specs.Roots.{roots_map}
use Rattle.heap.proofs.RootSlots.{slots_left}
use Rattle.heap.proofs.opening.root_slots.Given as goal

-- the slots so far and those of the roots that are left are all
abbrev pub invariant-loop-root : goal.invariant-loop-root
invariant-loop-root g l =
    map slot_value l.slots.items ++ slots_left l.from l.roots.slots ≡ map (λ e. root_slot e.0 e.1) (entries (roots_map l.roots.slots))

abbrev pub decreases-loop-root : goal.decreases-loop-root
decreases-loop-root g l = length l.roots.slots - l.from
