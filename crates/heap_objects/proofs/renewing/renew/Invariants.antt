use Rattle.std.proofs.Common.{◌≡◌, ◌≤◌, ◌<◌, ◌-◌, ℕ, None, is_some, slice_index}
use Rattle.std.specs.Prelude.{slice_index_or, option_and_then}
use Rattle.large_objects.specs.LargeValue.{large_at}
use Rattle.heap_objects.specs.Inside.{AreApart}
use Rattle.heap_objects.specs.Renewing.{renewed}
use Rattle.heap_objects.proofs.renewing.renew.Given as goal

-- the large objects with lower numbers are renewed, and the others are as they were
abbrev pub invariant-loop-number : goal.invariant-loop-number
invariant-loop-number g l = record {
  in_range : l.from ≤ 65535;
  apart : AreApart l.space l.large;
  space : l.space ≡ record l.initial.space { free = l.space.free };
  done : (n : ℕ) → n < l.from → large_at l.large n ≡ option_and_then (renewed l.initial.space.config.shape l.g (is_some (slice_index_or l.places (slice_index l.numbers n) None))) (large_at l.initial.large n);
  rest : (n : ℕ) → l.from ≤ n → large_at l.large n ≡ large_at l.initial.large n;
}

-- each turn goes past a number
abbrev pub decreases-loop-number : goal.decreases-loop-number
decreases-loop-number g l = 65535 - l.from
