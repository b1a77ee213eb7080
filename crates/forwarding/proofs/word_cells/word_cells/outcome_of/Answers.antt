use Rattle.std.proofs.Common.{◌∙◌}
use Rattle.forwarding.proofs.Keeps.{place_word-set}
use Rattle.forwarding.proofs.word_cells.word_cells.outcome_of.Goals as goal

pub returns-then-found-eq0-clause-lost : goal.returns-then-found-eq0-clause-lost
returns-then-found-eq0-clause-lost c = λ first is. absurd (place_word-set first (is ∙ c.if-found-eq0.true))
