use Rattle.std.proofs.Common.{map, take}
use Rattle.machine.specs.SystemEvents.{event_of}
use Rattle.machine.specs.Events.{Ran}
use Rattle.machine.proofs.machine.Machine.run.Given as goal

abbrev pub invariant-loop-i : goal.invariant-loop-i
invariant-loop-i g l = record { ran : Ran (take l.i (map event_of l.events)) l.fn.self l.self }
