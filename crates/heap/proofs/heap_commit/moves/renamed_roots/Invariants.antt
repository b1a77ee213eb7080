use Rattle.std.proofs.Common.{◌≡◌, ℕ, map, take}
use Rattle.steps.specs.SlotView.{slot_value}
use Rattle.heap.specs.Moves.{Moves, roots_by}
use Rattle.heap.specs.RootView.{root_pair}
use Rattle.heap.proofs.heap_commit.moves.renamed_roots.Given as goal

-- the slots before this one are renamed
abbrev pub invariant-loop-slot : goal.invariant-loop-slot
invariant-loop-slot g l = (f : ℕ → ℕ) → Moves l.objects l.g l.places f → map root_pair l.roots.items ≡ roots_by f (map slot_value (take l.slot-index l.slots))
