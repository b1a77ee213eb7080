use Rattle.std.proofs.Common.{rules}
use Rattle.idle_count.proofs.idle.IdleSeat.is_idle.Goals as goal

pub returns : goal.returns
returns c = search rules
