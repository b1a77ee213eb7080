use Rattle.std.proofs.Common.{refl, sym, ◌∙◌, arith, rules}
use Rattle.forwarding.proofs.PlainKeeps.{shows, reads, learner_fits, learns, learns_nothing}
use Rattle.forwarding.proofs.plain_cells.plain_cells.PlainCellsCells.look.Goals as goal

pub place_in-requires : goal.place_in-requires
place_in-requires g c = (_, shows _ _ _ c.args.name _ c.self.invariant (rw (← c.self.view_is) at c.requires.name) c.index.ensures)

pub returns-in_err-shown-clause-known : goal.returns-in_err-shown-clause-known
returns-in_err-shown-clause-known g c =
    let fit = rw (← c.self.view_is) at c.requires.pass in
    let below = rw (← c.self.view_is) at c.requires.name in
    let is = reads _ _ _ c.args.name _ _ c.self.invariant below c.index.ensures c.place_in.ensures in
    rw c.from_residual.ensures (learns_nothing _ _ c.args.name (sym c.in_err-shown.was ∙ is) (fit.known c.args.name))

pub returns-in_err-shown-clause-exact : goal.returns-in_err-shown-clause-exact
returns-in_err-shown-clause-exact g c =
    let below = rw (← c.self.view_is) at c.requires.name in
    let is = reads _ _ _ c.args.name _ _ c.self.invariant below c.index.ensures c.place_in.ensures in
    rw (← c.self.view_is, c.from_residual.ensures) (sym c.in_err-shown.was ∙ is)

pub returns-clause-keeps : goal.returns-clause-keeps
returns-clause-keeps g c =
    let fit = rw (← c.self.view_is) at c.requires.pass in
    let below = rw (← c.self.view_is) at c.requires.name in
    let is = reads _ _ _ c.args.name _ _ c.self.invariant below c.index.ensures c.place_in.ensures in
    record {
      pass = rw (← c.self.view_is, c.learn.ensures) (learner_fits _ _ c.args.name c.in_ok-shown.shown fit (sym is ∙ c.in_ok-shown.was) below);
      others = λ other ne fits. fits;
      home = search rules;
      apart = search rules;
      apart_back = search rules;
      limit = refl;
    }

pub returns-clause-known : goal.returns-clause-known
returns-clause-known g c =
    let fit = rw (← c.self.view_is) at c.requires.pass in
    let below = rw (← c.self.view_is) at c.requires.name in
    let is = reads _ _ _ c.args.name _ _ c.self.invariant below c.index.ensures c.place_in.ensures in
    let many = fit.many in
    rw c.learn.ensures (learns _ _ c.args.name c.in_ok-shown.shown (omega arith) (fit.known c.args.name) (λ p e. sym c.in_ok-shown.was ∙ (is ∙ e)))

pub returns-clause-exact : goal.returns-clause-exact
returns-clause-exact g c =
    let below = rw (← c.self.view_is) at c.requires.name in
    let is = reads _ _ _ c.args.name _ _ c.self.invariant below c.index.ensures c.place_in.ensures in
    rw (← c.self.view_is) (sym c.in_ok-shown.was ∙ is)
