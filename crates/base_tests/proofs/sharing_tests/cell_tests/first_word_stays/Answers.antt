use Rattle.base_tests.proofs.sharing_tests.cell_tests.first_word_stays.Goals as goal

pub returns : goal.returns
returns c = (
  c.first_place_stays.ensures.home_of_zero c.args.cells c.requires.passes.0,
  c.first_place_stays.ensures.home_of_one c.args.cells c.requires.passes.1,
)
