use Rattle.std.proofs.Common.{◌≡◌, take}
use Rattle.std.specs.Prelude.{flat_map}
use Rattle.model.specs.Store.{some_of}
use Rattle.reference.proofs.reference_data.object.Object.targets.Given as goal

abbrev pub invariant-loop-pointer : goal.invariant-loop-pointer
invariant-loop-pointer g l = l.found.items ≡ flat_map some_of (take l.pointer-index l.pointer-items)
