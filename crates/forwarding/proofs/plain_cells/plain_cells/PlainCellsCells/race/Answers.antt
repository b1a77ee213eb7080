use Rattle.std.proofs.Common.{None, refl, sym, ap, ◌∙◌, arith, rules, get_or-set_same, get_or-set_other}
use Rattle.forwarding.proofs.PairLemmas.{none_unless}
use Rattle.forwarding.specs.Plain.{PlainPassValue, place_of}
use Rattle.forwarding.proofs.PlainKeeps.{shows, reads, none_held, learner_fits, learns, winner_fits, others_fit, cells_set}
use Rattle.forwarding.proofs.plain_cells.plain_cells.PlainCellsCells.race.Goals as goal

pub place_in-requires : goal.place_in-requires
place_in-requires g c = (_, shows _ _ _ c.args.name _ c.self.invariant (rw (← c.self.view_is) at c.requires.name) c.index.ensures)

pub invariant_of-self : goal.invariant_of-self
invariant_of-self g c =
    let fit = rw (← c.self.view_is) at c.requires.pass in
    rw c.holding.ensures (cells_set _ _ _ _ _ _ _ c.short_word_of.ensures fit.mine.0 c.self.invariant)

pub returns-in-Some-clause-keeps : goal.returns-in-Some-clause-keeps
returns-in-Some-clause-keeps g c =
    let fit = rw (← c.self.view_is) at c.requires.pass in
    let below = rw (← c.self.view_is) at c.requires.name in
    let is = reads _ _ _ c.args.name _ _ c.self.invariant below c.index.ensures c.place_in.ensures in
    record {
      pass = rw (← c.self.view_is, c.learn.ensures) (learner_fits _ _ c.args.name c.in-Some.first fit (sym is ∙ c.in-Some.is) below);
      others = λ other ne fits. fits;
      home = search rules;
      apart = search rules;
      apart_back = search rules;
      limit = refl;
    }

pub returns-in-Some-clause-exact : goal.returns-in-Some-clause-exact
returns-in-Some-clause-exact g c =
    let below = rw (← c.self.view_is) at c.requires.name in
    let is = reads _ _ _ c.args.name _ _ c.self.invariant below c.index.ensures c.place_in.ensures in
    rw (← c.self.view_is) (sym is ∙ c.in-Some.is, refl)

pub returns-in-Some-clause-won : goal.returns-in-Some-clause-won
returns-in-Some-clause-won g c = ap (λ (p : PlainPassValue). p.won) c.learn.ensures

pub returns-in-Some-clause-known : goal.returns-in-Some-clause-known
returns-in-Some-clause-known g c =
    let fit = rw (← c.self.view_is) at c.requires.pass in
    let below = rw (← c.self.view_is) at c.requires.name in
    let is = reads _ _ _ c.args.name _ _ c.self.invariant below c.index.ensures c.place_in.ensures in
    let many = fit.many in
    rw c.learn.ensures (learns _ _ c.args.name c.in-Some.first (omega arith) (fit.known c.args.name) (λ p e. sym c.in-Some.is ∙ (is ∙ e)))

pub returns-in-None-clause-keeps : goal.returns-in-None-clause-keeps
returns-in-None-clause-keeps g c =
    let fit = rw (← c.self.view_is) at c.requires.pass in
    let below = rw (← c.self.view_is) at c.requires.name in
    let is = reads _ _ _ c.args.name _ _ c.self.invariant below c.index.ensures c.place_in.ensures in
    record {
      pass = rw (c.holding.ensures, c.win.ensures, c.learn-in-None.ensures) (winner_fits _ _ _ _ _ _ _ _ fit (none_held _ (sym c.in-None.is ∙ is)) below);
      others = λ other differ fits. rw c.holding.ensures (others_fit _ _ _ _ _ other (rw (← c.self.view_is) at fits) (none_held _ (sym c.in-None.is ∙ is)) below (λ same. differ (sym same)));
      home = search rules;
      apart = search rules;
      apart_back = search rules;
      limit = search rules;
    }

pub returns-in-None-clause-exact : goal.returns-in-None-clause-exact
returns-in-None-clause-exact g c =
    let below = rw (← c.self.view_is) at c.requires.name in
    let is = reads _ _ _ c.args.name _ _ c.self.invariant below c.index.ensures c.place_in.ensures in
    rw (← c.self.view_is, c.holding.ensures) (sym (sym c.in-None.is ∙ is), ap place_of (get_or-set_same _ c.args.name _ None below), (λ other ne. ap place_of (get_or-set_other _ c.args.name other _ None ne)), refl)

pub returns-in-None-clause-known : goal.returns-in-None-clause-known
returns-in-None-clause-known g c =
    let fit = rw (← c.self.view_is) at c.requires.pass in
    let below = rw (← c.self.view_is) at c.requires.name in
    let is = reads _ _ _ c.args.name _ _ c.self.invariant below c.index.ensures c.place_in.ensures in
    let many = fit.many in
    rw (c.win.ensures, c.learn-in-None.ensures) (learns _ _ c.args.name c.args.place (omega arith) (fit.known c.args.name) (λ p e. let none = sym c.in-None.is ∙ (is ∙ e) in absurd (cc)))

pub returns-in-None-clause-won : goal.returns-in-None-clause-won
returns-in-None-clause-won g c =
    let fit = rw (← c.self.view_is) at c.requires.pass in
    let below = rw (← c.self.view_is) at c.requires.name in
    let is = reads _ _ _ c.args.name _ _ c.self.invariant below c.index.ensures c.place_in.ensures in
    rw (c.win.ensures, c.learn-in-None.ensures) (none_unless _ (λ p e. let some = sym c.in-None.is ∙ (is ∙ fit.known c.args.name p e) in absurd (cc)), refl)
