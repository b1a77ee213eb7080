use Rattle.std.proofs.Common.{Some, sym, ap, ◌∙◌}
use Rattle.std.specs.Option.{option_map}
use Rattle.steps.specs.StepPairs.{stands_at}
use Rattle.layout.specs.ObjectRef.{raw_of}
use Rattle.heap_objects.proofs.Sound.{sound_fits, few_blocks}
use Rattle.nursery.proofs.Located.{object_found, object_none, large_none}
use Rattle.heap_objects.proofs.heap_space.space.Space.step_of.Goals as goal

pub returns-in_default : goal.returns-in_default
returns-in_default g c = rw (← c.self.view_is, c.in_default.is) (sym (ap (option_map stands_at) (large_none c.self.inside.table.items (sound_fits _ _ _ _ c.self.invariant.space) (few_blocks _ _ _ _ c.self.invariant.space) c.in_default.field-0.number)))

pub returns-in-Some : goal.returns-in-Some
returns-in-Some g c =
    let some = rw c.deref.ensures.value at c.in-Some.ensures.some in
    let found = object_found c.self.inside.table.items (sound_fits _ _ _ _ c.self.invariant.space) (few_blocks _ _ _ _ c.self.invariant.space) c.in-Small.at.block c.in-Small.at.offset c.in-Some.field-0.header.ordinal (raw_of c.in-Some.field-0) c.in-Small.at.offset_in_range
    (record { block = some.0; there = some.1; in_block = some.2; at = some.3; is = some.4 }) in
    let stands = (rw c.deref-in-Some.ensures.value at c.step_at.ensures) some.0 some.1 in
    rw (← c.self.view_is, c.in-Small.is) (ap Some stands ∙ sym (ap (option_map stands_at) found))

pub returns-in-None : goal.returns-in-None
returns-in-None g c =
    let none = rw c.deref.ensures.value at c.in-None.ensures.none in
    rw (← c.self.view_is, c.in-Small.is) (sym (ap (option_map stands_at) (object_none c.self.inside.table.items (sound_fits _ _ _ _ c.self.invariant.space) (few_blocks _ _ _ _ c.self.invariant.space) c.in-Small.at.block c.in-Small.at.offset c.in-Small.at.offset_in_range none)))
