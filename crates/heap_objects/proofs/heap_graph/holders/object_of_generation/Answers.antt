use Rattle.std.proofs.Common.{sym, subst}
use Rattle.std.specs.Prelude.{◌≡◌, None, MatchOption, IsSomeAnd}
use Rattle.layout.specs.ObjectRef.{raw_of}
use Rattle.layout.specs.Place.{place_word}
use Rattle.steps.specs.Remembered.{object_of_generation}
use Rattle.steps.specs.Words.{IsShownAs}
use Rattle.heap_objects.proofs.heap_graph.holders.object_of_generation.Goals as goal

pub returns-in-Small-clause-object : goal.returns-in-Small-clause-object
returns-in-Small-clause-object g c = λ graph shows.
    subst (λ p. MatchOption c.small_of_generation.result (object_of_generation graph c.args.h (place_word p) ≡ None) (λ object. IsSomeAnd (object_of_generation graph c.args.h (place_word p)) (λ o. IsShownAs o (raw_of object)))) (sym c.in-Small.is)
    (c.small_of_generation.ensures.object graph c.args.large.now shows)

pub returns-in-Small-clause-closed : goal.returns-in-Small-clause-closed
returns-in-Small-clause-closed g c = λ graph shows. c.small_of_generation.ensures.closed graph c.args.large.now shows

pub returns-in-Large-clause-object : goal.returns-in-Large-clause-object
returns-in-Large-clause-object g c = λ graph shows.
    subst (λ p. MatchOption c.large_of_generation.result (object_of_generation graph c.args.h (place_word p) ≡ None) (λ object. IsSomeAnd (object_of_generation graph c.args.h (place_word p)) (λ o. IsShownAs o (raw_of object)))) (sym c.in-Large.is)
    (c.large_of_generation.ensures.object graph c.args.table.now c.requires.short shows)

pub returns-in-Large-clause-closed : goal.returns-in-Large-clause-closed
returns-in-Large-clause-closed g c = λ graph shows. c.large_of_generation.ensures.closed graph c.args.table.now c.requires.short shows
