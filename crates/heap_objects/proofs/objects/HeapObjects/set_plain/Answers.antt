use Rattle.std.proofs.Common.{◌<◌, arith, length, refl}
use Rattle.std.specs.Prelude.{slice_set}
use Rattle.model.specs.Graph.{Object}
use Rattle.layout.specs.Place.{small_word, large_word}
use Rattle.heap_objects.proofs.Written.{some_small, small_apart, small_written, in_use, its, large_apart, large_written, plain_set, plain_kept}
use Rattle.heap_objects.proofs.objects.HeapObjects.set_plain.Goals as goal

pub set_plain-requires : goal.set_plain-requires
set_plain-requires g c =
    let at = c.in-Small.field-0 in
    let below : small_word at.block at.offset < large_word 0 = omega (arith, at.block_in_range, at.offset_in_range) in
    let some = rw (← c.self.view_is, c.in-Small.is) at c.requires in
    rw c.in-Small.is (some_small c.self.inside.space c.self.inside.large c.self.invariant (λ (o : Object). c.args.i < length o.plain) (λ (o : Object). record o { plain = slice_set o.plain c.args.i c.args.word }) (small_word at.block at.offset) below some)

pub invariant_of-self : goal.invariant_of-self
invariant_of-self g c =
    let at = c.in-Small.field-0 in
    let below : small_word at.block at.offset < large_word 0 = omega (arith, at.block_in_range, at.offset_in_range) in
    let some = rw (← c.self.view_is, c.in-Small.is) at c.requires in
    let change = rw c.in-Small.is at c.set_plain.ensures in
    small_apart c.self.inside.space c.self.inside.large c.self.invariant (λ (o : Object). c.args.i < length o.plain) (λ (o : Object). record o { plain = slice_set o.plain c.args.i c.args.word }) (small_word at.block at.offset) below some c.set_plain.new.self change c.free_count-free.ensures.space

pub set_plain-requires-in-Large-clause-in_use : goal.set_plain-requires-in-Large-clause-in_use
set_plain-requires-in-Large-clause-in_use g c = in_use c.self.inside.space c.self.inside.large c.self.invariant (λ (o : Object). c.args.i < length o.plain) (λ (o : Object). record o { plain = slice_set o.plain c.args.i c.args.word }) c.in-Large.number.number (rw (← c.self.view_is, c.in-Large.is) at c.requires)

pub set_plain-requires-in-Large-clause-field : goal.set_plain-requires-in-Large-clause-field
set_plain-requires-in-Large-clause-field g c = λ object is. its c.self.inside.space c.self.inside.large c.self.invariant (λ (o : Object). c.args.i < length o.plain) (λ (o : Object). record o { plain = slice_set o.plain c.args.i c.args.word }) c.in-Large.number.number (rw (← c.self.view_is, c.in-Large.is) at c.requires) object is

pub invariant_of-self-in-Large : goal.invariant_of-self-in-Large
invariant_of-self-in-Large g c =
    let some = rw (← c.self.view_is, c.in-Large.is) at c.requires in
    large_apart c.self.inside.space c.self.inside.large c.self.invariant (λ (o : Object). c.args.i < length o.plain) (λ (o : Object). record o { plain = slice_set o.plain c.args.i c.args.word }) c.in-Large.number.number some (plain_set c.args.i c.args.word) c.set_plain-in-Large.new.self (λ o. refl) c.set_plain-in-Large.ensures.changed (λ o _ is. plain_kept c.self.inside.space.config c.args.i c.args.word o is) c.set_plain-in-Large.ensures.pool_blocks

pub returns-in-Small : goal.returns-in-Small
returns-in-Small g c =
    let at = c.in-Small.field-0 in
    let below : small_word at.block at.offset < large_word 0 = omega (arith, at.block_in_range, at.offset_in_range) in
    let some = rw (← c.self.view_is, c.in-Small.is) at c.requires in
    let change = rw c.in-Small.is at c.set_plain.ensures in
    rw (← c.self.view_is, c.in-Small.is) (small_written c.self.inside.space c.self.inside.large c.self.invariant (λ (o : Object). c.args.i < length o.plain) (λ (o : Object). record o { plain = slice_set o.plain c.args.i c.args.word }) (small_word at.block at.offset) below some c.set_plain.new.self change)

pub returns-in-Large : goal.returns-in-Large
returns-in-Large g c =
    let some = rw (← c.self.view_is, c.in-Large.is) at c.requires in
    rw (← c.self.view_is, c.in-Large.is) (large_written c.self.inside.space c.self.inside.large c.self.invariant (λ (o : Object). c.args.i < length o.plain) (λ (o : Object). record o { plain = slice_set o.plain c.args.i c.args.word }) c.in-Large.number.number some (plain_set c.args.i c.args.word) c.set_plain-in-Large.new.self (λ o. refl) c.set_plain-in-Large.ensures.changed (λ o. refl))
