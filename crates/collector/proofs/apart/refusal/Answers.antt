use Rattle.std.proofs.Common.{ap}
use Rattle.workers_in_threads.specs.declared.sharing_worker.resting.Outcome.TheVariants.{Refused}
use Rattle.workers_in_threads.proofs.Back.{draws_here, draws_count}
use Rattle.collector.proofs.ByThreads.{short, stuck}
use Rattle.collector.proofs.apart.refusal.Goals as goal

pub close-drawn-requires-clause-seats : goal.close-drawn-requires-clause-seats
close-drawn-requires-clause-seats g c = draws_here _ _ _ _ _ _ _ _ _ _ _ _ _ c.requires.settled.back

pub close-drawn-requires-clause-all : goal.close-drawn-requires-clause-all
close-drawn-requires-clause-all g c = draws_count _ _ _ _ _ _ _ _ _ _ _ _ _ c.requires.settled.back

pub returns-in-HeapFull-clause-full : goal.returns-in-HeapFull-clause-full
returns-in-HeapFull-clause-full g c = λ e. short _ _ _ _ _ _ _ _ _ _ _ _ _ c.requires.settled.back (ap Refused c.in-HeapFull.is) (c.requires.settled.won_once (c.is_counted.ensures c.if-not-is_counted.false)) c.close-drawn.result c.close-drawn.ensures.count c.close-drawn.ensures.used_up

pub returns-in-HeapFull-clause-stuck : goal.returns-in-HeapFull-clause-stuck
returns-in-HeapFull-clause-stuck g c = λ e. stuck _ _ _ _ _ _ _ _ _ _ _ _ _ c.requires.settled.back (ap Refused c.in-HeapFull.is) (c.requires.settled.won_once (c.is_counted.ensures c.if-not-is_counted.false)) c.close-drawn.result c.close-drawn.ensures.count c.close-drawn.ensures.used_up
