use Rattle.std.proofs.Common.{Some}
use Rattle.pending_queues.proofs.lanes.lane.Lane.open.Given as goal

abbrev pub ghosts-open_as : goal.ghosts-open_as
ghosts-open_as g a = record { about = Some (a.key.now, a.exporter, a.seats) }
