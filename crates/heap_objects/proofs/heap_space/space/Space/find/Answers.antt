use Rattle.std.proofs.Common.{◌≤◌, arith}
use Rattle.heap_objects.proofs.Sound.{sound_fits, few_blocks}
use Rattle.nursery.proofs.Located.{covered}
use Rattle.heap_objects.proofs.Finding.{begins_there, none_there, shown, at_step, not_young, young_here, numbered_here, sum_is, sum_few}
use Rattle.heap_objects.proofs.heap_space.space.Space.find.Goals as goal

pub unreachable-requires : goal.unreachable-requires
unreachable-requires g c =
    let there = rw (← c.self.view_is, c.in_default.is) at c.requires.there in
    none_there _ _ _ _ c.self.invariant.space c.in_default.field-0.number there

pub object_from-object-requires : goal.object_from-object-requires
object_from-object-requires g c =
    let there = rw (← c.self.view_is, c.in-Small.is) at c.requires.there in
    rw c.deref.ensures.value (begins_there _ _ _ _ c.self.invariant.space c.in-Small.at.block c.in-Small.at.offset c.in-Small.at.offset_in_range there)

pub step_at-step-requires : goal.step_at-step-requires
step_at-step-requires g c =
    let there = rw (← c.self.view_is, c.in-Small.is) at c.requires.there in
    record { in_range = rw c.deref-2.ensures.value (covered c.self.inside.table.items (sound_fits _ _ _ _ c.self.invariant.space) (few_blocks _ _ _ _ c.self.invariant.space) c.in-Small.at.block c.in-Small.at.offset (omega (arith, c.in-Small.at.offset_in_range)) there) }

pub returns-then-step-generation-clause-object : goal.returns-then-step-generation-clause-object
returns-then-step-generation-clause-object g c =
    let there = rw (← c.self.view_is, c.in-Small.is) at c.requires.there in
    let read = rw c.deref.ensures.value at c.object_from-object.ensures in
    rw (← c.self.view_is, c.in-Small.is) (shown _ _ _ _ c.self.invariant.space c.in-Small.at.block c.in-Small.at.offset c.in-Small.at.offset_in_range there c.object_from-object.result read)

pub returns-then-step-generation-clause-step : goal.returns-then-step-generation-clause-step
returns-then-step-generation-clause-step g c =
    let there = rw (← c.self.view_is, c.in-Small.is) at c.requires.there in
    let read = rw c.deref.ensures.value at c.object_from-object.ensures in
    let stands = rw c.deref-2.ensures.value at c.step_at-step.ensures in
    rw (← c.self.view_is, c.in-Small.is) (at_step _ _ _ _ c.self.invariant.space c.in-Small.at.block c.in-Small.at.offset c.in-Small.at.offset_in_range there c.object_from-object.result read c.step_at-step.result stands)

pub returns-clause-object : goal.returns-clause-object
returns-clause-object g c =
    let there = rw (← c.self.view_is, c.in-Small.is) at c.requires.there in
    let read = rw c.deref.ensures.value at c.object_from-object.ensures in
    rw (← c.self.view_is, c.in-Small.is) (shown _ _ _ _ c.self.invariant.space c.in-Small.at.block c.in-Small.at.offset c.in-Small.at.offset_in_range there c.object_from-object.result read)

pub returns-clause-step : goal.returns-clause-step
returns-clause-step g c =
    let there = rw (← c.self.view_is, c.in-Small.is) at c.requires.there in
    let read = rw c.deref.ensures.value at c.object_from-object.ensures in
    let stands = rw c.deref-2.ensures.value at c.step_at-step.ensures in
    rw (← c.self.view_is, c.in-Small.is) (at_step _ _ _ _ c.self.invariant.space c.in-Small.at.block c.in-Small.at.offset c.in-Small.at.offset_in_range there c.object_from-object.result read c.step_at-step.result stands)

pub returns-then-step-generation-clause-number : goal.returns-then-step-generation-clause-number
returns-then-step-generation-clause-number g c =
    let there = rw (← c.self.view_is, c.in-Small.is) at c.requires.there in
    let read = rw c.deref.ensures.value at c.object_from-object.ensures in
    let stands = rw c.deref-2.ensures.value at c.step_at-step.ensures in
    rw (← c.self.view_is, c.in-Small.is) (not_young _ _ _ _ c.self.invariant.space c.in-Small.at.block c.in-Small.at.offset c.in-Small.at.offset_in_range there c.object_from-object.result read c.step_at-step.result stands c.args.generation c.if-step-generation.true)

pub bounds-bases-number : goal.bounds-bases-number
bounds-bases-number g c =
    let there = rw (← c.self.view_is, c.in-Small.is) at c.requires.there in
    let read = rw c.deref.ensures.value at c.object_from-object.ensures in
    let stands = rw c.deref-2.ensures.value at c.step_at-step.ensures in
    let bases = rw (← c.self.view_is) at c.requires.bases in
    let le : c.step_at-step.result.generation ≤ c.args.generation = omega (arith, c.if-step-generation.false) in
    (sum_is _ _ _ _ c.self.invariant.space c.in-Small.at.block c.in-Small.at.offset c.in-Small.at.offset_in_range there c.object_from-object.result read c.step_at-step.result stands c.args.generation c.args.bases.now le bases).0

pub overflow_add-named : goal.overflow_add-named
overflow_add-named g c =
    let there = rw (← c.self.view_is, c.in-Small.is) at c.requires.there in
    let read = rw c.deref.ensures.value at c.object_from-object.ensures in
    let stands = rw c.deref-2.ensures.value at c.step_at-step.ensures in
    let bases = rw (← c.self.view_is) at c.requires.bases in
    let le : c.step_at-step.result.generation ≤ c.args.generation = omega (arith, c.if-step-generation.false) in
    omega (arith, (sum_is _ _ _ _ c.self.invariant.space c.in-Small.at.block c.in-Small.at.offset c.in-Small.at.offset_in_range there c.object_from-object.result read c.step_at-step.result stands c.args.generation c.args.bases.now le bases).1, sum_few _ _ _ _ c.self.invariant.space c.in-Small.at.block c.in-Small.at.offset c.in-Small.at.offset_in_range there c.object_from-object.result read c.step_at-step.result stands c.args.generation le)

pub returns-clause-number : goal.returns-clause-number
returns-clause-number g c =
    let there = rw (← c.self.view_is, c.in-Small.is) at c.requires.there in
    let read = rw c.deref.ensures.value at c.object_from-object.ensures in
    let stands = rw c.deref-2.ensures.value at c.step_at-step.ensures in
    let bases = rw (← c.self.view_is) at c.requires.bases in
    let le : c.step_at-step.result.generation ≤ c.args.generation = omega (arith, c.if-step-generation.false) in
    rw (← c.self.view_is, c.in-Small.is) (young_here _ _ _ _ c.self.invariant.space c.in-Small.at.block c.in-Small.at.offset c.in-Small.at.offset_in_range there c.object_from-object.result read c.step_at-step.result stands c.args.generation le, rw (sum_is _ _ _ _ c.self.invariant.space c.in-Small.at.block c.in-Small.at.offset c.in-Small.at.offset_in_range there c.object_from-object.result read c.step_at-step.result stands c.args.generation c.args.bases.now le bases).1 (numbered_here _ _ _ _ c.self.invariant.space c.in-Small.at.block c.in-Small.at.offset c.in-Small.at.offset_in_range there c.object_from-object.result read c.step_at-step.result stands c.args.generation le))
