use Rattle.std.proofs.Common.{◌≡◌, ◌≤◌, ◌<◌, ◌+◌, ◌-◌, ℕ, length, slice_index}
use Rattle.heap_objects.specs.Large.{young_before}
use Rattle.heap_objects.proofs.large.large_numbers.Given as goal

-- the numbers so far, and the next one
abbrev pub invariant-loop-number : goal.invariant-loop-number
invariant-loop-number g l = record {
  few : length l.numbers.items ≤ 65535;
  each : (n : ℕ) → n < length l.numbers.items → slice_index l.numbers.items n ≡ l.small + young_before l.g l.large.slots n;
  value : l.next ≡ l.small + young_before l.g l.large.slots (length l.numbers.items);
}

-- each turn goes past a number
abbrev pub decreases-loop-number : goal.decreases-loop-number
decreases-loop-number g l = 65535 - length l.numbers.items
