use Rattle.std.proofs.Common.{◌≡◌, false}
use Rattle.idle_count.specs.IdleValue.{IsSeatOf}
use Rattle.workers_in_threads.specs.Sharing.{IsSame}
use Rattle.workers_in_threads.proofs.sharing_worker.worker.SharingWorker.run.Given as goal

abbrev pub invariant-loop : goal.invariant-loop
invariant-loop g l = record {
  same : IsSame g.C.Cells.at_home l.fn.self l.self;
  rest : IsSeatOf l.idle l.rest;
  busy : l.rest.idle ≡ false;
  voice : l.voice.name ≡ l.verdict.name;
  heard : l.voice.won ≡ l.fn.voice.won;
}
