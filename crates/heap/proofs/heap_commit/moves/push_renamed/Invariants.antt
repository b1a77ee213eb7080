use Rattle.std.proofs.Common.{◌≡◌, ℕ, ◌++◌, map, take}
use Rattle.steps.specs.SlotView.{slot_value}
use Rattle.heap.specs.Moves.{Moves, field_write, writes_by}
use Rattle.heap.proofs.heap_commit.moves.push_renamed.Given as goal

-- the slots before this one are renamed
abbrev pub invariant-loop-slot : goal.invariant-loop-slot
invariant-loop-slot g l = (f : ℕ → ℕ) → Moves l.objects l.g l.places f → map field_write l.renamed.items ≡ map field_write l.fn.renamed.items ++ writes_by f (map slot_value (take l.slot-index l.slots))
