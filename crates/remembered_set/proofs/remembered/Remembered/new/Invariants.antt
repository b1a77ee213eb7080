use Rattle.std.proofs.Common.{◌≡◌, [], replicate}
use Rattle.remembered_set.proofs.remembered.Remembered.new.Given as goal

abbrev pub invariant-loop : goal.invariant-loop
invariant-loop g l = l.sets.items ≡ replicate l.counter []
