use Rattle.std.proofs.Common.{◌≡◌, ◌≤◌, length, map, take}
use Rattle.std.specs.Vec.{vec_capacity}
use Rattle.std.specs.List.{enumerate_from}
use Rattle.settling.specs.Telling.{delivery_of}
use Rattle.settling.proofs.told.delivered.Given as goal

abbrev pub invariant-loop-export : goal.invariant-loop-export
invariant-loop-export g l = record {
  room : length l.exports ≤ vec_capacity l.deliveries;
  many : length l.deliveries.items ≡ l.export-index;
  told : l.deliveries.items ≡ map (delivery_of l.exporter) (take l.export-index (enumerate_from 0 l.exports));
}
