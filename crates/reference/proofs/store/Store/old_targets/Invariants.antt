use Rattle.std.proofs.Common.{◌≡◌, take}
use Rattle.std.specs.Prelude.{flat_map}
use Rattle.reference.specs.Plain.{old_of}
use Rattle.reference.proofs.store.Store.old_targets.Given as goal

abbrev pub invariant-loop-slot : goal.invariant-loop-slot
invariant-loop-slot g l = l.found.items ≡ flat_map (old_of l.g) (take l.slot-index l.slot-items)
