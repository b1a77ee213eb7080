use Rattle.std.proofs.Common.{◌≡◌}
use Rattle.workers_in_threads.specs.Sharing.{IsSame}
use Rattle.workers_in_threads.proofs.sharing_worker.worker.SharingWorker.work.Given as goal

abbrev pub invariant-loop : goal.invariant-loop
invariant-loop g l = record {
  same : IsSame g.C.Cells.at_home l.fn.self l.self;
  voice : l.voice.name ≡ l.verdict.name;
  heard : l.voice.won ≡ l.fn.voice.won;
}
