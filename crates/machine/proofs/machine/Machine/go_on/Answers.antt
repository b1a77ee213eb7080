use Rattle.std.proofs.Common.{subst}
use Rattle.machine.specs.SystemEvents.{event_of}
use Rattle.machine.specs.MachineValue.{MachineValue}
use Rattle.machine.specs.Events.{IsFullForEvent}
use Rattle.machine.proofs.Going.{lasts, is_full}
use Rattle.machine.proofs.machine.Machine.go_on.Goals as goal

pub invariant_of-self : goal.invariant_of-self
invariant_of-self g c = lasts (event_of c.args.event) c.self.inside.heap.now c.self.inside.collection c.self.inside.workers c.carry_out.new.workers c.self.invariant c.carry_out.result c.carry_out.ensures.ok c.carry_out.ensures.err

pub returns-clause-full : goal.returns-clause-full
returns-clause-full g c = λ is. subst (λ (m : MachineValue). IsFullForEvent (event_of c.args.event) m) c.self.view_is (is_full c.self.inside.heap.now c.self.inside.collection c.self.inside.workers c.self.invariant (event_of c.args.event) (c.carry_out.ensures.full is))
