use Rattle.one_worker.specs.Stepping.{IsOf, HasStepped, left_to_do}
use Rattle.one_worker.proofs.serial_steps.running.run_to_end.Given as goal

abbrev pub invariant-loop-serial : goal.invariant-loop-serial
invariant-loop-serial g l = record {
  same : IsOf l.heap l.collection l.serial;
  stepped : HasStepped l.serial;
}

abbrev pub decreases-loop-serial : goal.decreases-loop-serial
decreases-loop-serial g l = left_to_do l.serial
