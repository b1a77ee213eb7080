use Rattle.std.proofs.Common.{◌≡◌, replicate, None}
use Rattle.reference.proofs.reference_data.object.nil_pointers.Given as goal

abbrev pub invariant-loop-field : goal.invariant-loop-field
invariant-loop-field g l = l.pointers.items ≡ replicate l._field None
