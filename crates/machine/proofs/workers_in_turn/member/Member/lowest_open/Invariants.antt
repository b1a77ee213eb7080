use Rattle.std.proofs.Common.{◌≡◌, ℕ, ◌<◌, false}
use Rattle.workers.specs.WorkerSteps.{has_open_work}
use Rattle.machine.proofs.workers_in_turn.member.Member.lowest_open.Given as goal

abbrev pub invariant-loop-d : goal.invariant-loop-d
invariant-loop-d g l = record { none : (e : ℕ) → e < l.d → has_open_work l.self.workspace.worker e ≡ false }
