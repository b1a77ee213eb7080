use Rattle.base_tests.proofs.sharing_tests.box_cell_tests.first_box_stays.Goals as goal

pub returns-clause-passes : goal.returns-clause-passes
returns-clause-passes c = (
  c.first_place_stays.ensures.home_of_zero c.args.cells c.requires.passes.0,
  c.first_place_stays.ensures.home_of_one c.args.cells c.requires.passes.1,
)
