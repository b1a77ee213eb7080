use Rattle.std.proofs.Common.{◌<◌, arith, length, refl, sym, ◌∙◌}
use Rattle.model.specs.Graph.{Object}
use Rattle.heap_objects.proofs.FieldWrites.{some_and, plain_there, plain_written}
use Rattle.heap_objects.proofs.Finding.{begins_there}
use Rattle.heap_objects.proofs.Sound.{sound_fits, few_blocks}
use Rattle.nursery.proofs.AreaTables.{same_areas}
use Rattle.nursery.proofs.Located.{large_none}
use Rattle.nursery.proofs.TableSteps.{with_whole}
use Rattle.model.proofs.Options.{some_is, some_not_none}
use Rattle.heap_objects.proofs.heap_space.space.Space.set_plain.Goals as goal

pub set_plain-requires-clause-there : goal.set_plain-requires-clause-there
set_plain-requires-clause-there g c =
    let some = some_and (λ (o : Object). c.args.i < length o.plain) _ (rw (← c.self.view_is, c.in-Small.is) at c.requires) in
    rw c.deref_mut.ensures.value (begins_there _ _ _ _ c.self.invariant.space c.in-Small.at.block c.in-Small.at.offset c.in-Small.at.offset_in_range (rw some.1 refl))

pub set_plain-requires-clause-field : goal.set_plain-requires-clause-field
set_plain-requires-clause-field g c =
    let some = some_and (λ (o : Object). c.args.i < length o.plain) _ (rw (← c.self.view_is, c.in-Small.is) at c.requires) in
    rw c.deref_mut.ensures.value (λ block k raw there within at it. omega (arith, plain_there _ _ _ _ c.self.invariant.space c.in-Small.at.block c.in-Small.at.offset c.in-Small.at.offset_in_range some.0 some.1 c.args.i some.2 block k raw there within at it))

pub invariant_of-self : goal.invariant_of-self
invariant_of-self g c =
    let whole = with_whole c.self.inside.table.len c.set_plain.new.table c.self.inside.table.items (omega (arith, c.set_plain.auto.table, c.deref_mut.ensures.len, c.self.inside.table.ok.0)) (omega (arith, c.self.inside.table.ok.0)) in
    let some = some_and (λ (o : Object). c.args.i < length o.plain) _ (rw (← c.self.view_is, c.in-Small.is) at c.requires) in
    let written = plain_written _ _ _ _ c.self.invariant.space c.in-Small.at.block c.in-Small.at.offset c.in-Small.at.offset_in_range some.0 some.1 _ c.args.i c.args.word (rw c.deref_mut.ensures.value at c.set_plain.ensures) in
    rw whole (record { space = written.sound; flags = same_areas _ _ _ written.young c.self.invariant.flags; generations = c.self.invariant.generations; room = c.self.invariant.room })

pub returns-in-Small : goal.returns-in-Small
returns-in-Small g c =
    λ o is.
    let whole = with_whole c.self.inside.table.len c.set_plain.new.table c.self.inside.table.items (omega (arith, c.set_plain.auto.table, c.deref_mut.ensures.len, c.self.inside.table.ok.0)) (omega (arith, c.self.inside.table.ok.0)) in
    let some = some_and (λ (o : Object). c.args.i < length o.plain) _ (rw (← c.self.view_is, c.in-Small.is) at c.requires) in
    let same = some_is (sym some.1 ∙ rw (← c.self.view_is, c.in-Small.is) at is) in
    rw (← c.self.view_is, c.in-Small.is, whole, ← same) (plain_written _ _ _ _ c.self.invariant.space c.in-Small.at.block c.in-Small.at.offset c.in-Small.at.offset_in_range some.0 some.1 _ c.args.i c.args.word (rw c.deref_mut.ensures.value at c.set_plain.ensures)).space_is

pub returns-in-Large : goal.returns-in-Large
returns-in-Large g c =
    λ o is. absurd (some_not_none (sym (rw (← c.self.view_is, c.in-Large.is) at is) ∙ large_none c.self.inside.table.items (sound_fits _ _ _ _ c.self.invariant.space) (few_blocks _ _ _ _ c.self.invariant.space) c.in-Large.field-0.number))
