use Rattle.std.proofs.Common.{◌<◌, length, sym, subst}
use Rattle.forwarding.proofs.Closing.{among_first}
use Rattle.forwarding.proofs.word_cells.closed.ClosedWords.word.Goals as goal

pub returns : goal.returns
returns g c = rw (← c.self.view_is) (among_first _ c.self.inside.count c.args.name _ (subst (λ v. c.args.name < length v) (sym c.self.view_is) c.requires) c.word.ensures)
