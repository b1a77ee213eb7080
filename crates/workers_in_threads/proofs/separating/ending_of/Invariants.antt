use Rattle.std.proofs.Common.{◌≡◌, ◌≢◌}
use Rattle.scavenge.specs.declared.looking.LookError.{LookError}
use Rattle.workers_in_threads.specs.declared.sharing_worker.resting.Outcome.TheVariants.{Ended, Left, Refused}
use Rattle.workers_in_threads.specs.CameBack.{IsOneOf, IsNotRefused}
use Rattle.workers_in_threads.proofs.Endings.{Below}
use Rattle.workers_in_threads.proofs.separating.ending_of.Given as goal

-- so far all ended, or one left; none was refused
abbrev pub invariant-loop-worker : goal.invariant-loop-worker
invariant-loop-worker g l = record {
  ended : l.ending ≡ Ended → Below l.brought (λ r. r.outcome ≡ Ended) l.worker-index;
  left : l.ending ≡ Left → IsOneOf (λ r. r.outcome ≡ Left) l.brought;
  none_refused : Below l.brought IsNotRefused l.worker-index;
  not_refused : (e : LookError) → l.ending ≢ Refused e;
}
