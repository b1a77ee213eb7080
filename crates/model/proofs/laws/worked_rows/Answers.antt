-- Each row's theorem.
use Rattle.model.proofs.RowProofs.{first_row, pointer_row, cycle_row, remembered_row, dead_old_row, large_row, full_row, ageing_row, made_old_row, two_mutators_row, block_left_row, get_row, no_generation_row}
use Rattle.model.proofs.laws.worked_rows.Goals as goal

pub returns-clause-first : goal.returns-clause-first
returns-clause-first c = first_row

pub returns-clause-pointer : goal.returns-clause-pointer
returns-clause-pointer c = pointer_row

pub returns-clause-cycle : goal.returns-clause-cycle
returns-clause-cycle c = cycle_row

pub returns-clause-remembered : goal.returns-clause-remembered
returns-clause-remembered c = remembered_row

pub returns-clause-dead_old : goal.returns-clause-dead_old
returns-clause-dead_old c = dead_old_row

pub returns-clause-large : goal.returns-clause-large
returns-clause-large c = large_row

pub returns-clause-full : goal.returns-clause-full
returns-clause-full c = full_row

pub returns-clause-ageing : goal.returns-clause-ageing
returns-clause-ageing c = ageing_row

pub returns-clause-made_old : goal.returns-clause-made_old
returns-clause-made_old c = made_old_row

pub returns-clause-two_mutators : goal.returns-clause-two_mutators
returns-clause-two_mutators c = two_mutators_row

pub returns-clause-block_left : goal.returns-clause-block_left
returns-clause-block_left c = block_left_row

pub returns-clause-get : goal.returns-clause-get
returns-clause-get c = get_row

pub returns-clause-no_generation : goal.returns-clause-no_generation
returns-clause-no_generation c = no_generation_row
