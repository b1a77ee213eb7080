use Rattle.std.proofs.Common.{◌≡◌, ◌≤◌, None}
use Rattle.one_worker.specs.Stepping.{IsOf, HasStepped, left_to_do}
use Rattle.one_worker.proofs.serial_steps.sweeping.swept.Given as goal

abbrev pub invariant-loop : goal.invariant-loop
invariant-loop g l = record {
  same : IsOf l.heap l.collection l.sweep;
  stepped : HasStepped l.sweep;
  proposal : l.sweep.workspace.worker.proposal ≡ None;
  less : left_to_do l.sweep ≤ left_to_do l.fn.serial;
}

abbrev pub decreases-loop : goal.decreases-loop
decreases-loop g l = left_to_do l.sweep
