use Rattle.std.proofs.Common.{rules}
use Rattle.reference.proofs.collecting.kept_or_gone.Goals as goal

pub returns-then-is_live : goal.returns-then-is_live
returns-then-is_live g c = search rules
