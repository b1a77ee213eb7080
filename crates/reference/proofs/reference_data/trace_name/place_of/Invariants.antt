use Rattle.std.proofs.Common.{◌≡◌, ◌+◌, drop}
use Rattle.reference.specs.NamePlace.{place_of}
use Rattle.reference.proofs.reference_data.trace_name.place_of.Given as goal

abbrev pub invariant-loop-i : goal.invariant-loop-i
invariant-loop-i g l = place_of l.text l.names ≡ place_of l.text (drop l.i l.names) + l.i
