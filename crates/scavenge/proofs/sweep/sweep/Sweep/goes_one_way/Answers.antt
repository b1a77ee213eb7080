use Rattle.std.proofs.Common.{sym}
use Rattle.scavenge.proofs.sweep.sweep.Sweep.goes_one_way.Goals as goal

pub returns : goal.returns
returns g c = λ is. rw (← c.self.view_is) (c.self.inside.destination, c.self.invariant.10 is)
