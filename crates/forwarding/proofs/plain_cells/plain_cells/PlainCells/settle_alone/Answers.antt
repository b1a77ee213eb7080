use Rattle.std.proofs.Common.{◌≡◌, ◌∙◌, ◌∷◌, [], sym, subst, map}
use Rattle.forwarding.specs.ShortWords.{long_word}
use Rattle.forwarding.specs.Plain.{PlainValue, ArePlainCells, place_of}
use Rattle.forwarding.proofs.PlainSettled.{settles_as, they_agree, exact_as, fits_alone, differs_alone}
use Rattle.forwarding.proofs.plain_cells.plain_cells.PlainCells.settle_alone.Goals as goal

pub returns-clause-exact : goal.returns-clause-exact
returns-clause-exact g c = subst (λ (v : PlainValue). c.of.result ≡ map place_of v.held) c.self.view_is (c.of.ensures ∙ exact_as _ _ c.self.invariant.shown)

pub returns-clause-settled : goal.returns-clause-settled
returns-clause-settled g c =
    let are : ArePlainCells (map long_word c.self.inside.words.items) c.args.self.held c.args.self.passes = subst (λ (v : PlainValue). ArePlainCells (map long_word c.self.inside.words.items) v.held v.passes) c.self.view_is c.self.invariant in
    settles_as c.args.self _ _ are (fits_alone c.args.self c.args.pass c.requires.fits) (differs_alone c.args.pass) (sym c.requires.alone) c.of.result (returns-clause-exact g c)

pub returns-clause-agree : goal.returns-clause-agree
returns-clause-agree g c =
    let are : ArePlainCells (map long_word c.self.inside.words.items) c.args.self.held c.args.self.passes = subst (λ (v : PlainValue). ArePlainCells (map long_word c.self.inside.words.items) v.held v.passes) c.self.view_is c.self.invariant in
    they_agree c.args.self (c.args.pass ∷ []) _ are (fits_alone c.args.self c.args.pass c.requires.fits) (differs_alone c.args.pass) (sym c.requires.alone)
