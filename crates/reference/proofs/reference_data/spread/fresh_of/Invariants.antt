use Rattle.std.proofs.Common.{◌≡◌, ◌++◌, take, drop}
use Rattle.model.specs.Reached.{fresh_of}
use Rattle.reference.proofs.reference_data.spread.fresh_of.Given as goal

abbrev pub invariant-loop-i : goal.invariant-loop-i
invariant-loop-i g l = fresh_of l.seen l.names ≡ l.fresh.items ++ fresh_of (take l.i l.names ++ l.seen) (drop l.i l.names)
