use Rattle.std.proofs.Common.{◌≡◌, ◌≤◌, length, map, take}
use Rattle.std.specs.Vec.{vec_capacity}
use Rattle.std.specs.List.{enumerate_from}
use Rattle.settling.specs.OwnDeliveries.{own_delivery}
use Rattle.one_worker.proofs.serial_settling.settled.delivered.Given as goal

abbrev pub invariant-loop-export : goal.invariant-loop-export
invariant-loop-export g l = record {
  room : length l.exports ≤ vec_capacity l.deliveries;
  many : length l.deliveries.items ≡ l.export-index;
  told : l.deliveries.items ≡ map own_delivery (take l.export-index (enumerate_from 0 (map (λ e. e.objects) l.exports)));
}
