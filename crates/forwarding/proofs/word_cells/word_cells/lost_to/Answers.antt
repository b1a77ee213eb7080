use Rattle.std.proofs.Common.{Some, sym, ◌∙◌}
use Rattle.layout.proofs.Pointers.{pointer_word-one_to_one}
use Rattle.forwarding.proofs.word_cells.word_cells.lost_to.Goals as goal

pub returns-in-None : goal.returns-in-None
returns-in-None c = λ first is. let e = pointer_word-one_to_one _ (Some first) (c.pointer_of.ensures ∙ sym is) in let n = c.in-None.is in absurd (cc)

pub returns-in-Some : goal.returns-in-Some
returns-in-Some c = λ first is. let e = pointer_word-one_to_one _ (Some first) (c.pointer_of.ensures ∙ sym is) in let n = c.in-Some.is in cc
