use Rattle.std.proofs.Common.{◌≡◌, replicate}
use Rattle.reference.proofs.reference_data.object.zero_words.Given as goal

abbrev pub invariant-loop-field : goal.invariant-loop-field
invariant-loop-field g l = l.plain.items ≡ replicate l._field 0
