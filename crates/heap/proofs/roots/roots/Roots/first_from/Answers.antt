use Rattle.std.proofs.Common.{◌<◌, length, sym, arith}
use Rattle.heap.proofs.Flagged.{none_from, first_is, flag_of_root, number_within}
use Rattle.heap.proofs.roots.roots.Roots.first_from.Goals as goal

pub returns-in-Some-get-clause-first : goal.returns-in-Some-get-clause-first
returns-in-Some-get-clause-first g c =
    rw (← c.self.view_is) (first_is c.self.inside.slab.slots c.self.inside.used c.self.invariant c.args.from c.in-Some.number c.in-Some-get.place.now c.in-Some.ensures.from c.in-Some.ensures.first (sym c.in-Some-get.ensures))

pub returns-in-Some-get-clause-in_range : goal.returns-in-Some-get-clause-in_range
returns-in-Some-get-clause-in_range g c =
    let within : c.in-Some.number < length c.self.inside.slab.slots = number_within c.self.inside.slab.slots c.in-Some.number c.in-Some-get.place.now (sym c.in-Some-get.ensures) in
    omega (arith, within, c.capacity-capacity.ensures.slots)

pub returns-in-None-clause-first : goal.returns-in-None-clause-first
returns-in-None-clause-first g c =
    absurd (flag_of_root c.self.inside.slab.slots c.self.inside.used c.self.invariant c.in-Some.number c.in-Some.ensures.flag (sym c.in-None.ensures))

pub returns-in_default-clause-first : goal.returns-in_default-clause-first
returns-in_default-clause-first g c =
    rw (← c.self.view_is) (none_from c.self.inside.slab.slots c.self.inside.used c.self.invariant c.args.from c.in_default.ensures.none)
