use Rattle.std.proofs.Common.{rules}
use Rattle.reference.proofs.reference_data.room.Room.full.Goals as goal

pub returns : goal.returns
returns c = search rules
