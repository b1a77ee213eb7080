use Rattle.std.proofs.Common.{◌≡◌, ◌≤◌, length}
use Rattle.std.specs.Vec.{vec_capacity}
use Rattle.forwarding.proofs.box_cells.box_cells.empty_cells.Given as goal

abbrev pub invariant-loop : goal.invariant-loop
invariant-loop l = record { room : l.count ≤ vec_capacity l.cells; many : length l.cells.items ≡ l.counter }
