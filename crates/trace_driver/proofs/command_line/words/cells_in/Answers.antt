use Rattle.std.proofs.Common.{◌∙◌, codes, refl}
use Rattle.clap.specs.Matches.{found_of}
use Rattle.clap.proofs.WalkLemmas.{first_value-rows}
use Rattle.trace_driver.proofs.Reading.{cells_read, no_cells_read}
use Rattle.trace_driver.proofs.command_line.words.cells_in.Goals as goal

pub returns : goal.returns
returns c =
    let found = c.get_str.ensures ∙ first_value-rows (found_of c.args.matches.now) (codes "cells") in
    record {
      some = cells_read c.get_str.result _ c.unwrap_or.result _ c.cells_of.result found c.unwrap_or.ensures refl c.cells_of.ensures.boxed c.cells_of.ensures.words;
      none = no_cells_read c.get_str.result _ c.unwrap_or.result _ c.cells_of.result found c.unwrap_or.ensures refl c.cells_of.ensures.boxed c.cells_of.ensures.words;
    }
