use Rattle.std.proofs.Common.{IfSome, List, Option, subst, sym}
use Rattle.clap.specs.Walk.{Row, Text, rows_of}
use Rattle.clap.specs.Matches.{found_of}
use Rattle.clap.specs.declared.parser.matches.ArgMatches.TheViews.{out-ArgMatches}
use Rattle.trace_driver.specs.Asked.{AreOptionsIn}
use Rattle.trace_driver.proofs.Reading.{both_parts}
use Rattle.trace_driver.proofs.command_line.words.options_in.Goals as goal

pub returns : goal.returns
returns c =
    let name = c.in_ok-name.name.now in
    let rows = rows_of (found_of c.in_ok-name.inner.now) in
    let met = both_parts (out-ArgMatches c.args.matches.now).subcommand name rows c.in_ok-name.ensures.name c.in_ok-name.ensures.rows in
    record {
      some = subst (λ (o : Option (Text × List Row)). IfSome c.options_of.result (AreOptionsIn o)) (sym met) c.options_of.ensures.some;
      none = λ e options is. c.options_of.ensures.none e options (subst (λ (o : Option (Text × List Row)). AreOptionsIn o options) met is);
    }
