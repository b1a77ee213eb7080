use Rattle.std.proofs.Common.{None}
use Rattle.heap.proofs.Flagged.{changed_flags}
use Rattle.heap.proofs.roots.roots.Roots.remove.Goals as goal

pub invariant_of-self : goal.invariant_of-self
invariant_of-self g c =
    changed_flags c.self.inside.slab.slots c.self.inside.used c.self.invariant c.try_remove.new.self.slots c.unset.new.self c.args.number None
    c.in-Some.ensures.updates.changed c.in-Some.ensures.updates.others c.unset.ensures.flag c.unset.ensures.others

pub returns-in-Some-clause-updates : goal.returns-in-Some-clause-updates
returns-in-Some-clause-updates g c =
    rw (← c.self.view_is) record { changed = c.in-Some.ensures.updates.changed; others = c.in-Some.ensures.updates.others }

pub returns-in-Some-clause-value : goal.returns-in-Some-clause-value
returns-in-Some-clause-value g c = rw (← c.self.view_is) c.in-Some.ensures.value

pub returns-in-None-clause-updates : goal.returns-in-None-clause-updates
returns-in-None-clause-updates g c =
    rw (← c.self.view_is) record { changed = c.in-None.ensures.updates.changed; others = c.in-None.ensures.updates.others }

pub returns-in-None-clause-value : goal.returns-in-None-clause-value
returns-in-None-clause-value g c = rw (← c.self.view_is) c.in-None.ensures.value
