use Rattle.std.proofs.Common.{◌∙◌}
use Rattle.forwarding.proofs.Fresh.{opens_zero}
use Rattle.forwarding.proofs.word_cells.word_cells.WordCells.within.Goals as goal

pub of_words-requires : goal.of_words-requires
of_words-requires g c = opens_zero _ _ (c.as_slice.ensures ∙ c.in_ok-zeros.ensures.ok)
