use Rattle.std.proofs.Common.{◌≡◌, ◌<◌, length, Some, refl, sym, ap, subst, ◌∙◌, arith}
use Rattle.std.proofs.lemmas.Bool.{true≢false}
use Rattle.std.proofs.lemmas.Bool.Decides.{nat_tests}
use Rattle.layout.specs.declared.place.Place.{Place}
use Rattle.layout.specs.declared.place.Place.TheVariants.{Small, Large}
use Rattle.layout.specs.Place.{place_word, pointer_word}
use Rattle.layout.proofs.Pointers.{place_word-one_to_one}
use Rattle.nursery.proofs.TableSteps.{get_or_any}
use Rattle.heap.specs.Lowest.{lowest_in, MayBeYounger}
use Rattle.heap.proofs.remembering.lowest.may_be_younger.Goals as goal

pub returns-in-Some : goal.returns-in-Some
returns-in-Some c =
    let found = c.in-Some-Some-Small in
    let generations = c.args.lowest.now in
    let place : Place = Small found.at in
    let word : place_word place ≡ c.args.word = ap pointer_word (sym (found.field-0-is ∙ ap Some found.field-0-0-is)) ∙ found.ensures.reads in
    let in_list : found.at.block < length generations = grind (arith, nat_tests, sym c.in-Some.ensures.lookup.0) in
    let same : c.in-Some.lowest.now ≡ lowest_in generations found.at.block = c.in-Some.ensures.lookup.1 ∙ get_or_any generations found.at.block _ 255 in_list in (
      λ below. (place, word, let low : c.in-Some.lowest.now < c.args.generation = grind (arith, nat_tests, below) in omega (arith, low, same)),
      λ younger.
          let is : younger.0 ≡ place = place_word-one_to_one younger.0 place (younger.1 ∙ sym word) in
          let low : lowest_in generations found.at.block < c.args.generation = subst (MayBeYounger (lowest_in generations) c.args.generation) is younger.2 in
          grind (arith, nat_tests, low, same),
    )

pub returns-in-Some-Some-Large : goal.returns-in-Some-Some-Large
returns-in-Some-Some-Large c =
    let found = c.in-Some-Some-Large in
    let place : Place = Large found.field-0-0-0 in
    let word : place_word place ≡ c.args.word = ap pointer_word (sym (found.field-0-is ∙ ap Some found.field-0-0-is)) ∙ found.ensures.reads in
    (λ _. (place, word, tt), λ _. refl)

pub returns-in_default-2 : goal.returns-in_default-2
returns-in_default-2 c =
    let none = rw c.in_default.is at c.from_word.ensures.none in
    (λ no. absurd (true≢false (sym no)), λ younger. absurd (none (Some younger.0) younger.1))
