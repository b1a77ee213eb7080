use Rattle.std.proofs.Common.{◌≡◌, ℕ, ◌<◌, ◌≤◌, length, Some}
use Rattle.std.specs.Prelude.{slice_get}
use Rattle.nursery.specs.NurseryValue.{NurseryValue}
use Rattle.heap_objects.specs.Nursery.{from_first}
use Rattle.heap_objects.proofs.heap_space.nurseries.reset_all.Given as goal

-- those before this one are filled from their first blocks again
abbrev pub invariant-loop-number : goal.invariant-loop-number
invariant-loop-number l = record {
  len : length l.nurseries ≡ length l.fn.nurseries;
  before : (m : ℕ) (n : NurseryValue) → m < l.number → slice_get l.fn.nurseries m ≡ Some n → slice_get l.nurseries m ≡ Some (from_first n);
  rest : (m : ℕ) → l.number ≤ m → slice_get l.nurseries m ≡ slice_get l.fn.nurseries m;
}
