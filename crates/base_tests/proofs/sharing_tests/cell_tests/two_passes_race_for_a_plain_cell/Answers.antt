use Rattle.std.proofs.Common.{rules, sym, ap, ◌∙◌}
use Rattle.forwarding.specs.Plain.{PlainValue, IsFit}
use Rattle.base_tests.proofs.sharing_tests.cell_tests.two_passes_race_for_a_plain_cell.Goals as goal

pub settle_plain-requires-clause-all : goal.settle_plain-requires-clause-all
settle_plain-requires-clause-all g c =
    let fit : IsFit c.in_ok-cells.cells c.in_ok-zero.zero = search rules in
    let after = (c.first_place_stays.ensures.home_of_zero c.in_ok-cells.cells fit.mine).1 in
    sym c.first_place_stays.ensures.fits.0.mine.1 ∙ (after ∙ ap (λ (v : PlainValue). v.passes) c.in_ok-cells.ensures.cells)
