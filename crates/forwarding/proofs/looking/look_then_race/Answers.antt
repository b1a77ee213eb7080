use Rattle.std.proofs.Common.{rules}
use Rattle.forwarding.proofs.looking.look_then_race.Goals as goal

pub returns-in-Lost-clause-known : goal.returns-in-Lost-clause-known
returns-in-Lost-clause-known g c = search rules
