use Rattle.std.proofs.Common.{◌≡◌, ◌≤◌, ◌*◌, ◌-◌, length, map, sum_by}
use Rattle.model.specs.Graph.{size_of}
use Rattle.heap_objects.proofs.LargeCounts.{entries_below}
use Rattle.heap_objects.proofs.large.count_large.Given as goal

-- those of the numbers so far
abbrev pub invariant-loop-number : goal.invariant-loop-number
invariant-loop-number g l = record {
  in_range : l.from ≤ 65535;
  few : l.count.objects ≤ l.from;
  few_words : l.count.words ≤ l.from * 200001;
  objects : l.count.objects ≡ length (entries_below 0 l.large.slots l.from);
  words : l.count.words ≡ sum_by size_of (map (λ e. e.1) (entries_below 0 l.large.slots l.from));
}

-- each turn goes past a number
abbrev pub decreases-loop-number : goal.decreases-loop-number
decreases-loop-number g l = 65535 - l.from
