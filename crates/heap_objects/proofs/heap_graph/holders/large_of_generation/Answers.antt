use Rattle.std.proofs.Common.{◌≡◌, false, true, None, sym, ap, subst, ◌∙◌, arith}
use Rattle.std.proofs.lemmas.Bool.Decides.{nat_tests}
use Rattle.std.specs.Prelude.{nat_eq, All, IfSome, IsSomeAnd, MatchOption}
use Rattle.std.specs.Option.{option_map}
use Rattle.layout.specs.Object.{Raw}
use Rattle.layout.specs.ObjectRef.{raw_of}
use Rattle.layout.specs.Place.{large_word}
use Rattle.steps.specs.Remembered.{object_of_generation}
use Rattle.steps.specs.Words.{IsShownAs}
use Rattle.large_objects.specs.LargeValue.{LargeObject, large_at}
use Rattle.heap_objects.specs.HeapGraph.{IsClosedWord}
use Rattle.heap_objects.proofs.LargeReads.{label_some, label_none, shown_is}
use Rattle.heap_objects.proofs.HeldObjects.{no_large, large_of_other, large_of_this, large_closed}
use Rattle.heap_objects.proofs.heap_graph.holders.large_of_generation.Goals as goal

pub returns-in_default-clause-object : goal.returns-in_default-clause-object
returns-in_default-clause-object g c = λ graph table short shows.
    no_large graph table c.args.large.now short shows c.args.h c.args.number.number (label_none (large_at c.args.large.now c.args.number.number) (sym c.step_of.ensures ∙ c.in_default.is))

pub returns-then-generation-h-clause-object : goal.returns-then-generation-h-clause-object
returns-then-generation-h-clause-object g c = λ graph table short shows.
    let there = label_some (large_at c.args.large.now c.args.number.number) c.in-Some.generation c.in-Some._step (sym c.step_of.ensures ∙ c.in-Some.is) in
    let other : nat_eq there.0.generation c.args.h ≡ false = grind (arith, nat_tests, there.2, c.if-generation-h.true) in
    large_of_other graph table c.args.large.now short shows c.args.h c.args.number.number there.0 there.1 other

pub returns-clause-object : goal.returns-clause-object
returns-clause-object g c = λ graph table short shows.
    let there = label_some (large_at c.args.large.now c.args.number.number) c.in-Some.generation c.in-Some._step (sym c.step_of.ensures ∙ c.in-Some.is) in
    let same : nat_eq there.0.generation c.args.h ≡ true = grind (arith, nat_tests, there.2, c.if-generation-h.false) in
    let shown = shown_is c.get.result there.0 (c.get.ensures.raw ∙ ap (option_map (λ (o : LargeObject). o.raw)) there.1) in
    subst (λ r. MatchOption r (object_of_generation graph c.args.h (large_word c.args.number.number) ≡ None) (λ object. IsSomeAnd (object_of_generation graph c.args.h (large_word c.args.number.number)) (λ o. IsShownAs o (raw_of object)))) (sym shown.1)
    (subst (λ (raw : Raw). IsSomeAnd (object_of_generation graph c.args.h (large_word c.args.number.number)) (λ o. IsShownAs o raw)) (sym shown.2)
    (large_of_this graph table c.args.large.now short shows c.args.h c.args.number.number there.0 there.1 same))

pub returns-clause-closed : goal.returns-clause-closed
returns-clause-closed g c = λ graph table short shows.
    let there = label_some (large_at c.args.large.now c.args.number.number) c.in-Some.generation c.in-Some._step (sym c.step_of.ensures ∙ c.in-Some.is) in
    let shown = shown_is c.get.result there.0 (c.get.ensures.raw ∙ ap (option_map (λ (o : LargeObject). o.raw)) there.1) in
    subst (λ r. IfSome r (λ object. All (IsClosedWord graph) (raw_of object).pointers)) (sym shown.1)
    (subst (λ (raw : Raw). All (IsClosedWord graph) raw.pointers) (sym shown.2)
    (large_closed graph table c.args.large.now short shows c.args.h c.args.number.number there.0 there.1))
