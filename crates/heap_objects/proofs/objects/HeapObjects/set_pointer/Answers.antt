use Rattle.std.proofs.Common.{◌<◌, arith, length, refl}
use Rattle.std.specs.Option.{option_map}
use Rattle.model.specs.Graph.{Object, with_pointer}
use Rattle.layout.specs.Place.{small_word, large_word, place_word}
use Rattle.std.proofs.lemmas.List.{length-map}
use Rattle.steps.specs.Words.{target_of_word}
use Rattle.heap_objects.proofs.Written.{some_small, small_apart, small_written, in_use, its, large_apart, large_written, pointer_set, pointer_kept, pointer_shows}
use Rattle.heap_objects.proofs.objects.HeapObjects.set_pointer.Goals as goal

pub set_pointer-requires : goal.set_pointer-requires
set_pointer-requires g c =
    let at = c.in-Small.field-0 in
    let below : small_word at.block at.offset < large_word 0 = omega (arith, at.block_in_range, at.offset_in_range) in
    let some = rw (← c.self.view_is, c.in-Small.is) at c.requires in
    rw c.in-Small.is (some_small c.self.inside.space c.self.inside.large c.self.invariant (λ (o : Object). c.args.i < length o.pointers) (λ (o : Object). with_pointer o c.args.i (option_map place_word c.args.target)) (small_word at.block at.offset) below some)

pub invariant_of-self : goal.invariant_of-self
invariant_of-self g c =
    let at = c.in-Small.field-0 in
    let below : small_word at.block at.offset < large_word 0 = omega (arith, at.block_in_range, at.offset_in_range) in
    let some = rw (← c.self.view_is, c.in-Small.is) at c.requires in
    let change = rw c.in-Small.is at c.set_pointer.ensures in
    small_apart c.self.inside.space c.self.inside.large c.self.invariant (λ (o : Object). c.args.i < length o.pointers) (λ (o : Object). with_pointer o c.args.i (option_map place_word c.args.target)) (small_word at.block at.offset) below some c.set_pointer.new.self change c.free_count-free.ensures.space

pub set_pointer-requires-in-Large-clause-in_use : goal.set_pointer-requires-in-Large-clause-in_use
set_pointer-requires-in-Large-clause-in_use g c = in_use c.self.inside.space c.self.inside.large c.self.invariant (λ (o : Object). c.args.i < length o.pointers) (λ (o : Object). with_pointer o c.args.i (option_map place_word c.args.target)) c.in-Large.number.number (rw (← c.self.view_is, c.in-Large.is) at c.requires)

pub set_pointer-requires-in-Large-clause-field : goal.set_pointer-requires-in-Large-clause-field
set_pointer-requires-in-Large-clause-field g c = λ object is. omega (arith, its c.self.inside.space c.self.inside.large c.self.invariant (λ (o : Object). c.args.i < length o.pointers) (λ (o : Object). with_pointer o c.args.i (option_map place_word c.args.target)) c.in-Large.number.number (rw (← c.self.view_is, c.in-Large.is) at c.requires) object is, length-map object.raw.pointers target_of_word)

pub invariant_of-self-in-Large : goal.invariant_of-self-in-Large
invariant_of-self-in-Large g c =
    let some = rw (← c.self.view_is, c.in-Large.is) at c.requires in
    large_apart c.self.inside.space c.self.inside.large c.self.invariant (λ (o : Object). c.args.i < length o.pointers) (λ (o : Object). with_pointer o c.args.i (option_map place_word c.args.target)) c.in-Large.number.number some (pointer_set c.args.i c.word_of.result) c.set_pointer-in-Large.new.self (λ o. refl) c.set_pointer-in-Large.ensures.changed (λ o _ is. pointer_kept c.self.inside.space.config c.args.i c.word_of.result o is) c.set_pointer-in-Large.ensures.pool_blocks

pub returns-in-Small : goal.returns-in-Small
returns-in-Small g c =
    let at = c.in-Small.field-0 in
    let below : small_word at.block at.offset < large_word 0 = omega (arith, at.block_in_range, at.offset_in_range) in
    let some = rw (← c.self.view_is, c.in-Small.is) at c.requires in
    let change = rw c.in-Small.is at c.set_pointer.ensures in
    rw (← c.self.view_is, c.in-Small.is) (small_written c.self.inside.space c.self.inside.large c.self.invariant (λ (o : Object). c.args.i < length o.pointers) (λ (o : Object). with_pointer o c.args.i (option_map place_word c.args.target)) (small_word at.block at.offset) below some c.set_pointer.new.self change)

pub returns-in-Large : goal.returns-in-Large
returns-in-Large g c =
    let some = rw (← c.self.view_is, c.in-Large.is) at c.requires in
    rw (← c.self.view_is, c.in-Large.is) (large_written c.self.inside.space c.self.inside.large c.self.invariant (λ (o : Object). c.args.i < length o.pointers) (λ (o : Object). with_pointer o c.args.i (option_map place_word c.args.target)) c.in-Large.number.number some (pointer_set c.args.i c.word_of.result) c.set_pointer-in-Large.new.self (λ o. refl) c.set_pointer-in-Large.ensures.changed (pointer_shows c.args.i c.word_of.result c.args.target c.word_of.ensures))
