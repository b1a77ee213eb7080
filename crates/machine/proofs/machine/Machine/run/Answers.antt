use Rattle.std.proofs.Common.{Err, map, ap}
use Rattle.machine.specs.SystemEvents.{event_of}
use Rattle.machine.proofs.OneByOne.{ran_none, ran_on, stopped_on, event_at}
use Rattle.machine.proofs.machine.Machine.run.Goals as goal

pub loop-i-init : goal.loop-i-init
loop-i-init g c = record { ran = ran_none c.args.self.now }

pub loop-i-preserved : goal.loop-i-preserved
loop-i-preserved g c = record {
  ran = ran_on (map event_of c.args.events.now) c.loop-i.i _ c.args.self.now c.loop-i.self c.step.new.self (event_at c.args.events.now c.loop-i.i _ c.loop-i-test.true) c.loop-i.invariant.ran c.in_default.ensures.ok;
}

pub returns-in-Err-clause-err : goal.returns-in-Err-clause-err
returns-in-Err-clause-err g c =
    stopped_on (map event_of c.args.events.now) c.loop-i.i _ c.in-Err.error c.args.self.now c.loop-i.self c.step.new.self c.in-Err.ensures.err (event_at c.args.events.now c.loop-i.i _ c.loop-i-test.true) c.loop-i.invariant.ran
    (λ e. c.in-Err.ensures.unlawful.0 (ap (λ x. Err x) e)) (λ e. c.in-Err.ensures.full (ap (λ x. Err x) e)) (λ e. c.in-Err.ensures.memory (ap (λ x. Err x) e))
