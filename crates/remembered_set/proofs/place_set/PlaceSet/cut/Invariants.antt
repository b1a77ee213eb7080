use Rattle.std.proofs.Common.{◌≡◌, length, take}
use Rattle.remembered_set.proofs.place_set.PlaceSet.cut.Given as goal

abbrev pub invariant-loop-self : goal.invariant-loop-self
invariant-loop-self g l = take l.fn.len l.self ≡ take l.fn.len l.initial.self

abbrev pub decreases-loop-self : goal.decreases-loop-self
decreases-loop-self g l = length l.self
