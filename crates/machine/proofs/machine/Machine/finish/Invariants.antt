use Rattle.machine.specs.Events.{WentOn}
use Rattle.machine.proofs.OneByOne.{left_to_do}
use Rattle.machine.proofs.machine.Machine.finish.Given as goal

abbrev pub invariant-loop-event : goal.invariant-loop-event
invariant-loop-event g l = record { steps : WentOn l.fn.self l.self }

abbrev pub decreases-loop-event : goal.decreases-loop-event
decreases-loop-event g l = left_to_do l.self
