use Rattle.clap.specs.Matches.{found_of}
use Rattle.trace_driver.proofs.Reading.{no_number_read, number_read, writes}
use Rattle.trace_driver.proofs.command_line.words.number_of.Goals as goal

pub returns : goal.returns
returns c =
    let read = c.in_ok-number.ensures in
    record {
      some = number_read (found_of c.args.matches.now) c.args.name.now c.in_ok-number.number read.none (λ t e. writes t c.in_ok-number.number (read.value t e).0.0 (read.value t e).0.1);
      none = λ e n is. cc;
    }

pub returns-in_err-number-clause-none : goal.returns-in_err-number-clause-none
returns-in_err-number-clause-none c e = no_number_read (found_of c.args.matches.now) c.args.name.now (λ t h. (c.in_err-number.ensures.value t h).1.0)
