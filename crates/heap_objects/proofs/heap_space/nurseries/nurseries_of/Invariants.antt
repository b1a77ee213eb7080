use Rattle.std.proofs.Common.{◌≡◌, ℕ, ◌*◌, ◌<◌, length, Some}
use Rattle.std.specs.Prelude.{slice_get}
use Rattle.heap_objects.proofs.heap_space.nurseries.nurseries_of.Given as goal

-- those of the mutators before this one are there
abbrev pub invariant-loop-mutator : goal.invariant-loop-mutator
invariant-loop-mutator g l = record {
  len : length l.nurseries.items ≡ l.mutator;
  each : (m : ℕ) → m < l.mutator → slice_get l.nurseries.items m ≡ Some (record { first = m * l.blocks; blocks = l.blocks; current = 0 });
}
