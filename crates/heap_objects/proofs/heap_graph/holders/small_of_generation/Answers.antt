use Rattle.std.proofs.Common.{◌≡◌, false, true, ap, arith}
use Rattle.std.proofs.lemmas.Bool.Decides.{nat_tests}
use Rattle.std.specs.Prelude.{nat_eq}
use Rattle.layout.specs.ObjectRef.{raw_of}
use Rattle.heap_objects.proofs.HeldObjects.{none_there, other_generation, this_generation, words_closed}
use Rattle.heap_objects.proofs.heap_graph.holders.small_of_generation.Goals as goal

pub returns-in_default-clause-object : goal.returns-in_default-clause-object
returns-in_default-clause-object g c = λ graph large shows.
    none_there graph c.args.table.now large c.requires.short shows c.args.h c.args.at.block c.args.at.offset c.args.at.block_in_range c.args.at.offset_in_range c.in_default.ensures.none

pub returns-then-step_at-h-clause-object : goal.returns-then-step_at-h-clause-object
returns-then-step_at-h-clause-object g c = λ graph large shows.
    let found = c.in-Some.ensures.some in
    let other : nat_eq found.0.generation c.args.h ≡ false = grind (arith, nat_tests, ap (λ p. p.0) (c.step_at.ensures found.0 found.1), c.if-step_at-h.true) in
    other_generation graph c.args.table.now large c.requires.short shows c.args.h c.args.at.block c.args.at.offset c.in-Some.object.header.ordinal (raw_of c.in-Some.object) found.0 c.args.at.block_in_range c.args.at.offset_in_range found.1 found.2 found.3 found.4 other

pub returns-clause-object : goal.returns-clause-object
returns-clause-object g c = λ graph large shows.
    let found = c.in-Some.ensures.some in
    let same : nat_eq found.0.generation c.args.h ≡ true = grind (arith, nat_tests, ap (λ p. p.0) (c.step_at.ensures found.0 found.1), c.if-step_at-h.false) in
    this_generation graph c.args.table.now large c.requires.short shows c.args.h c.args.at.block c.args.at.offset c.in-Some.object.header.ordinal (raw_of c.in-Some.object) found.0 c.args.at.block_in_range c.args.at.offset_in_range found.1 found.2 found.3 found.4 same

pub returns-clause-closed : goal.returns-clause-closed
returns-clause-closed g c = λ graph large shows.
    let found = c.in-Some.ensures.some in
    words_closed graph c.args.table.now large c.requires.short shows c.args.h c.args.at.block c.args.at.offset c.in-Some.object.header.ordinal (raw_of c.in-Some.object) found.0 c.args.at.block_in_range c.args.at.offset_in_range found.1 found.2 found.3 found.4
