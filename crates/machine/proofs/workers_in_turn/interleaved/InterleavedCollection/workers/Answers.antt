use Rattle.std.proofs.Common.{◌≡◌, ℕ, subst, ◌∙◌}
use Rattle.std.proofs.lemmas.List.{length-map}
use Rattle.machine.specs.InterleavedValue.{InterleavedValue, HasWorkers, system_of}
use Rattle.machine.specs.IsInterleaved.{IsInterleaved}
use Rattle.machine.proofs.workers_in_turn.interleaved.InterleavedCollection.workers.Goals as goal

has_workers : (v : InterleavedValue) → IsInterleaved v → HasWorkers (system_of v) v.workers
has_workers v k = record {
  workers = length-map v.members _ ∙ k.count;
  queues = length-map v.queues.lanes _ ∙ k.queue.count;
  idle = length-map v.members _ ∙ k.count;
}

pub returns-clause-each : goal.returns-clause-each
returns-clause-each g c = subst (λ (v : InterleavedValue). HasWorkers (system_of v) c.self.inside.workers) c.self.view_is (has_workers _ c.self.invariant)
