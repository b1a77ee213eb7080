use Rattle.std.proofs.Common.{rules, sym, ◌∙◌}
use Rattle.layout.proofs.Pointers.{pointer_word-one_to_one}
use Rattle.forwarding.proofs.Keeps.{looks}
use Rattle.forwarding.proofs.Told.{looked_known, looked_won}
use Rattle.forwarding.proofs.word_cells.word_cells.WordCells.look.Goals as goal

pub load-word-requires : goal.load-word-requires
load-word-requires g c = (search rules, search rules, looks _ _ _ _ _)

pub pointer_of-requires : goal.pointer_of-requires
pointer_of-requires g c = let t = c.load-word.ensures.2 in (t.0, t.1)

pub returns-clause-known : goal.returns-clause-known
returns-clause-known g c = rw (← c.pass.view_is) (looked_known _ _ _ _ _ c.load-word.ensures.2 (λ o is. pointer_word-one_to_one _ o (c.pointer_of.ensures ∙ sym is)))

pub returns-clause-won : goal.returns-clause-won
returns-clause-won g c = rw (← c.pass.view_is) (looked_won _ _ _ _ _ c.load-word.ensures.2 (λ o is. pointer_word-one_to_one _ o (c.pointer_of.ensures ∙ sym is)))
