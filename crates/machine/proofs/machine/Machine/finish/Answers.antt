use Rattle.std.proofs.Common.{sym}
use Rattle.machine.specs.SystemEvents.{event_of}
use Rattle.machine.proofs.OneByOne.{went_none, went_on, less_left}
use Rattle.machine.proofs.machine.Machine.finish.Goals as goal

pub loop-event-init : goal.loop-event-init
loop-event-init g c = record { steps = went_none c.args.self.now }

pub loop-event-smaller : goal.loop-event-smaller
loop-event-smaller g c = less_left c.loop-event.self c.go_on.new.self (event_of c.in-Some.event) c.in-Some.ensures.reached (sym c.in-Some.ensures.next) c.in_ok-go_on.ensures.ok

pub loop-event-preserved : goal.loop-event-preserved
loop-event-preserved g c = record {
  steps = went_on c.args.self.now c.loop-event.self c.go_on.new.self (event_of c.in-Some.event) c.loop-event.invariant.steps (sym c.in-Some.ensures.next) c.in_ok-go_on.ensures.ok;
}
