use Rattle.std.proofs.Common.{◌≡◌, drop}
use Rattle.std.specs.Ordering.{nat_cmp}
use Rattle.std.specs.Cmp.Lexicographic.{slice_cmp}
use Rattle.std.specs.FinMap.{find}
use Rattle.reference.proofs.reference_data.trace_name.find_name.Given as goal

abbrev pub invariant-loop-named : goal.invariant-loop-named
invariant-loop-named g l = find (slice_cmp nat_cmp) l.text l.names ≡ find (slice_cmp nat_cmp) l.text (drop l.named-index l.names)
