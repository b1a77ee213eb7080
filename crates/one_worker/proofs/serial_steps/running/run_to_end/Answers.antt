use Rattle.std.proofs.Common.{◌≤◌, Ok, ap, ◌∙◌, arith}
use Rattle.one_worker.specs.Stepping.{left_to_do}
use Rattle.one_worker.proofs.serial_steps.running.run_to_end.Goals as goal
use Rattle.one_worker.proofs.serial_steps.running.run_to_end.Goals.{then-holds_block+then-not-has_proposal+else-is_err, else-holds_block}

pub loop-serial-smaller : goal.loop-serial-smaller
loop-serial-smaller g c =
    let swept : left_to_do c.if-holds_block.serial ≤ left_to_do c.loop-serial.serial = elim c.if-holds_block.branch [
      | then-holds_block+then-not-has_proposal+else-is_err w ↦ omega (arith, w.swept-serial.ensures.less, ap left_to_do w.serial-is, ap left_to_do w.reserve_sweep.ensures)
      | else-holds_block w ↦ omega (arith, ap left_to_do w.serial-is)
    ] in
    omega (arith, c.scavenge_and_step.ensures.less (c.in-Ok-true.is ∙ ap Ok c.in-Ok-true.field-0-test), swept)

pub returns-in_default-clause-stepped : goal.returns-in_default-clause-stepped
returns-in_default-clause-stepped g c = elim c.if-holds_block.branch [
  | then-holds_block+then-not-has_proposal+else-is_err w ↦ rw w.serial-is w.swept-serial.ensures.stepped
  | else-holds_block w ↦ rw w.serial-is c.loop-serial.invariant.stepped
]

pub scavenge_and_step-requires-clause-stepped : goal.scavenge_and_step-requires-clause-stepped
scavenge_and_step-requires-clause-stepped g c = elim c.if-holds_block.branch [
  | then-holds_block+then-not-has_proposal+else-is_err w ↦ rw w.serial-is w.swept-serial.ensures.stepped
  | else-holds_block w ↦ rw w.serial-is c.loop-serial.invariant.stepped
]
