use Rattle.std.proofs.Common.{rules}
use Rattle.layout.proofs.place.Place.small.Goals as goal

pub returns-clause-at : goal.returns-clause-at
returns-clause-at c = search rules

pub returns-clause-word : goal.returns-clause-word
returns-clause-word c = search rules
