use Rattle.scavenge.proofs.sweep.sweep.Sweep.closed.Goals as goal

pub invariant_of-result : goal.invariant_of-result
invariant_of-result g c = rw c.replace.ensures.table (c.self.invariant.0, c.self.invariant.1, c.self.invariant.2, c.self.invariant.3)

pub returns : goal.returns
returns g c = rw c.replace.ensures.table c.self.view_is
