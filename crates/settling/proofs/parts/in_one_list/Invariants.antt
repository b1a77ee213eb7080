use Rattle.std.proofs.Common.{◌≡◌, ◌++◌}
use Rattle.workers.specs.Joined.{somes}
use Rattle.settling.proofs.parts.in_one_list.Given as goal

abbrev pub invariant-loop-slot : goal.invariant-loop-slot
invariant-loop-slot g l = l.blocks.items ++ somes l.slot-iterator.rest.items ≡ somes l.fn.allocation.items
