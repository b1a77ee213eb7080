use Rattle.std.proofs.Common.{◌≡◌}
use Rattle.settling.proofs.ToldLists.{first_deliveries}
use Rattle.settling.proofs.told.all_delivered.Given as goal

abbrev pub invariant-loop-exporter : goal.invariant-loop-exporter
invariant-loop-exporter g l = record { told : l.deliveries.items ≡ first_deliveries l.told l.exporter }
