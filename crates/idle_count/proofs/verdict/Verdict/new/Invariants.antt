use Rattle.std.proofs.Common.{◌≡◌, ◌≤◌, length, vec_capacity}
use Rattle.std.specs.List.{All}
use Rattle.once_cell.specs.Once.{cell_name}
use Rattle.idle_count.specs.VerdictValue.{untold}
use Rattle.idle_count.proofs.verdict.Verdict.new.Given as goal

abbrev pub invariant-loop : goal.invariant-loop
invariant-loop l = record {
  room : l.seats ≤ vec_capacity l.made;
  many : length l.made.items ≡ l.counter;
  each : All (λ s. s ≡ untold (record { name = cell_name l.cell })) l.made.items;
}
