use Rattle.trace_replay.proofs.FromMachine.{comes}
use Rattle.trace_replay.proofs.schedules.automatic.settled_by_itself.Goals as goal

pub returns-in-Ok-settle-clause-ok : goal.returns-in-Ok-settle-clause-ok
returns-in-Ok-settle-clause-ok g c =
    comes c.args.heap.now c.args.generation c.args.workers _ c.in-Ok.ensures.ok _ c.in_ok-finish.ensures.ok.same c.in_ok-finish.ensures.ok.finishes _ _ _ _ _ c.in-Ok-settle.ensures.ok
