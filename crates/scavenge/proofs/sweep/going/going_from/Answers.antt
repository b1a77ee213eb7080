use Rattle.std.proofs.Common.{ap, ◌∙◌}
use Rattle.workers.specs.Setting.{destination_number}
use Rattle.scavenge.proofs.sweep.going.going_from.Goals as goal

pub returns-clause-going : goal.returns-clause-going
returns-clause-going c = c.dest_number.ensures ∙ ap (destination_number c.args.config.shape) c.dest.ensures
