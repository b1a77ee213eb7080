use Rattle.std.proofs.Common.{rules}
use Rattle.machine.proofs.carrying.carry_out.Goals as goal
use Rattle.machine.proofs.carrying.carry_out.Goals.{in-Race+in_ok-race-in-Race, in-Scan+in_ok-scan-in-Scan, in-Export+in_ok-export-in-Export, in-Take+in_ok-take-in-Take, in-Own, in-OwnLarge, in-Idle, in-Wake, in-End}

pub returns-clause-ok : goal.returns-clause-ok
returns-clause-ok g c =
    elim c.match-event.branch [
      | in-Race+in_ok-race-in-Race w ↦ search rules
      | in-Scan+in_ok-scan-in-Scan w ↦ search rules
      | in-Export+in_ok-export-in-Export w ↦ search rules
      | in-Take+in_ok-take-in-Take w ↦ search rules
      | in-Own w ↦ search rules
      | in-OwnLarge w ↦ search rules
      | in-Idle w ↦ search rules
      | in-Wake w ↦ search rules
      | in-End w ↦ rw (w.in-End.is, w.workers-is) assumption
    ]
