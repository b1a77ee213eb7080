use Rattle.std.proofs.Common.{◌≡◌, ◌∙◌, ap, refl, sym, true, List, Option, subst}
use Rattle.clap.specs.Walk.{Row, Text}
use Rattle.clap.specs.Simple.{app_of, is_simple}
use Rattle.clap.specs.Faults.{is_simple_and_free}
use Rattle.trace_driver.specs.Asked.{AreOptionsIn, no_task}
use Rattle.trace_driver.proofs.Building.{gctrace_is_simple}
use Rattle.trace_driver.proofs.Refusing.{for_faults, gctrace_is_free, handed_up}
use Rattle.trace_driver.proofs.command_line.words.parsed_words.Goals as goal

pub returns-in_err-matches : goal.returns-in_err-matches
returns-in_err-matches g c =
    let is = c.in_ok-command.ensures.0 in
    let free : is_simple_and_free (app_of c.in_ok-command.command) ≡ true = ap is_simple_and_free is.2 ∙ gctrace_is_free is.0 in
    let why = for_faults (app_of c.in_ok-command.command) _ c.in_err-matches.field-0.0 is (c.in_err-matches.ensures.kinds free) in
    let both = handed_up _ c.from_residual-in_err-matches.result c.in_err-matches.field-0.0 c.from_residual-in_err-matches.ensures.1 why in
    record { ok = both.0; err = both.1 }

pub returns-in-Some : goal.returns-in-Some
returns-in-Some g c =
    let is = c.in_ok-command.ensures.0 in
    let simple : is_simple (app_of c.in_ok-command.command) ≡ true = ap is_simple is.2 ∙ gctrace_is_simple is.0 in
    let free : is_simple_and_free (app_of c.in_ok-command.command) ≡ true = ap is_simple_and_free is.2 ∙ gctrace_is_free is.0 in
    let met = (c.in_ok-matches.ensures.ok.2 simple).1 in
    record {
      ok = (app_of c.in_ok-command.command, is, c.in_ok-matches.ensures.kinds free, subst (λ (o : Option (Text × List Row)). AreOptionsIn o c.in-Some.options) met c.in-Some.ensures.some);
      err = tt;
    }

pub returns-clause-err : goal.returns-clause-err
returns-clause-err g c =
    let is = c.in_ok-command.ensures.0 in
    let simple : is_simple (app_of c.in_ok-command.command) ≡ true = ap is_simple is.2 ∙ gctrace_is_simple is.0 in
    let free : is_simple_and_free (app_of c.in_ok-command.command) ≡ true = ap is_simple_and_free is.2 ∙ gctrace_is_free is.0 in
    let met = (c.in_ok-matches.ensures.ok.2 simple).1 in
    no_task (app_of c.in_ok-command.command) is (c.in_ok-matches.ensures.kinds free) c.in_ok-error-in-None.ensures.kind
    (λ options h. c.in-None.ensures.none refl options (subst (λ (o : Option (Text × List Row)). AreOptionsIn o options) (sym met) h))
