use Rattle.std.proofs.Common.{ap, sym, ◌∙◌, Option, Some, arith, rules}
use Rattle.layout.specs.declared.place.Place.{Place}
use Rattle.layout.proofs.Pointers.{pointer_word-one_to_one}
use Rattle.layout.proofs.place.Place.from_word.Goals as goal

pub returns-then-number-lt-MOST_NUMBERS-clause-back :
    goal.returns-then-number-lt-MOST_NUMBERS-clause-back
returns-then-number-lt-MOST_NUMBERS-clause-back c =
    λ pointer is.
    ap (λ (p : Option Place). Some p) (pointer_word-one_to_one (Some c.large.result) pointer (omega (arith, c.large.ensures.word) ∙ sym is))

pub returns-then-offset-lt-MOST_OFFSETS-clause-back :
    goal.returns-then-offset-lt-MOST_OFFSETS-clause-back
returns-then-offset-lt-MOST_OFFSETS-clause-back c =
    λ pointer is.
    ap (λ (p : Option Place). Some p) (pointer_word-one_to_one (Some c.small.result) pointer (omega (arith, c.small.ensures.word) ∙ sym is))

pub returns-then-word-eq0-clause-back : goal.returns-then-word-eq0-clause-back
returns-then-word-eq0-clause-back c = search rules

pub returns-then-word-eq0-clause-none : goal.returns-then-word-eq0-clause-none
returns-then-word-eq0-clause-none c = search rules
