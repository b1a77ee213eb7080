use Rattle.std.proofs.Common.{◌≡◌, true}
use Rattle.idle_count.specs.IdleValue.{IsSeatOf}
use Rattle.workers_in_threads.proofs.sharing_worker.worker.SharingWorker.rest.Given as goal

abbrev pub invariant-loop : goal.invariant-loop
invariant-loop g l = record {
  same : l.self ≡ l.fn.self;
  rest : IsSeatOf l.idle l.rest;
  idle : l.rest.idle ≡ true;
  voice : l.voice.name ≡ l.verdict.name;
  heard : l.voice.won ≡ l.fn.voice.won;
}
