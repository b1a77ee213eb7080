use Rattle.std.proofs.Common.{◌∙◌, ap}
use Rattle.pending_queues.specs.PlainValue.{front_of}
use Rattle.pending_queues.proofs.PlainSteps.{waits_first, keeps_taken}
use Rattle.pending_queues.proofs.plain_queues.plain_queue.PlainQueue.pop.Goals as goal

pub invariant_of-self-2 : goal.invariant_of-self-2
invariant_of-self-2 g c =
    keeps_taken _ _ _ _ _ _ _ _ _ _ _ c.self.invariant c.in-Some.ensures.items c.in_ok-reserve.ensures.items c.push_reserved.ensures.items

pub returns-clause-front : goal.returns-clause-front
returns-clause-front g c = waits_first _ _ _ _ _ _ _ c.self.invariant c.in-Some.ensures.items ∙ ap (λ v. front_of v.lane) c.self.view_is
