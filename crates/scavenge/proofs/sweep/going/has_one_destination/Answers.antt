use Rattle.std.proofs.Common.{◌≡◌, sym, ◌∙◌, arith}
use Rattle.std.proofs.lemmas.Bool.{true≢false}
use Rattle.std.proofs.lemmas.Bool.Decides.{nat_tests}
use Rattle.scavenge.proofs.Goings.{one_step, two_at_most, two_go}
use Rattle.scavenge.proofs.sweep.going.has_one_destination.Goals as goal

pub returns-then-generations-gt2 : goal.returns-then-generations-gt2
returns-then-generations-gt2 c = (
  λ no. absurd (true≢false (sym no)),
  λ all. absurd (omega (arith, c.if-generations-gt2.true, c.generations-generations.ensures.value, two_at_most c.args.config.shape c.generations-generations.ensures.in_range.some_step all)),
)

pub returns : goal.returns
returns c =
    let shape = c.args.config.shape in
    let two : shape.generations ≡ 2 = omega (arith, c.if-generations-gt2.false, c.if-generations-eq1.false, c.generations-generations.ensures.value, c.generations-generations.ensures.in_range.some_generation) in (
      λ is. two_go shape two (sym c.steps.ensures.value ∙ grind (arith, nat_tests, is)),
      λ all.
          let one : shape.steps ≡ 1 = one_step shape c.steps.ensures.in_range.some_step all (omega (arith, two)) in
          grind (arith, nat_tests, c.steps.ensures.value, one),
    )
