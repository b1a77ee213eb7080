use Rattle.std.proofs.Common.{rules}
use Rattle.forwarding.proofs.Keeps.{races}
use Rattle.forwarding.proofs.Told.{race_told, race_found}
use Rattle.forwarding.proofs.word_cells.word_cells.WordCells.race.Goals as goal

pub compare_exchange-found-requires : goal.compare_exchange-found-requires
compare_exchange-found-requires g c = (search rules, search rules, races _ _ _ _ _ _ c.args.place c.to_word.ensures (search rules) (search rules))

pub outcome_of-requires : goal.outcome_of-requires
outcome_of-requires g c = race_found _ _ _ _ _ _ c.compare_exchange-found.ensures.2

pub returns-clause-known : goal.returns-clause-known
returns-clause-known g c = rw (← c.pass.view_is) (race_told _ _ _ _ _ _ _ _ c.compare_exchange-found.ensures.2 c.to_word.ensures c.outcome_of.ensures.won c.outcome_of.ensures.lost).0

pub returns-clause-won : goal.returns-clause-won
returns-clause-won g c = rw (← c.pass.view_is) (race_told _ _ _ _ _ _ _ _ c.compare_exchange-found.ensures.2 c.to_word.ensures c.outcome_of.ensures.won c.outcome_of.ensures.lost).1
