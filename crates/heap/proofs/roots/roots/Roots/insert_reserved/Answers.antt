use Rattle.std.proofs.Common.{Some, arith}
use Rattle.heap.proofs.Flagged.{changed_flags}
use Rattle.heap.proofs.roots.roots.Roots.insert_reserved.Goals as goal

pub set-requires : goal.set-requires
set-requires g c =
    let flagged = rw (← c.self.view_is) at c.requires.flagged in
    omega (arith, flagged, c.insert_reserved-number.ensures.key)

pub invariant_of-self : goal.invariant_of-self
invariant_of-self g c =
    changed_flags c.self.inside.slab.slots c.self.inside.used c.self.invariant c.insert_reserved-number.new.self.slots c.set.new.self c.insert_reserved-number.result (Some c.args.place)
    c.insert_reserved-number.ensures.updates.changed c.insert_reserved-number.ensures.updates.others c.set.ensures.flag c.set.ensures.others

pub returns-clause-updates : goal.returns-clause-updates
returns-clause-updates g c =
    rw (← c.self.view_is) record { changed = c.insert_reserved-number.ensures.updates.changed; others = c.insert_reserved-number.ensures.updates.others }
