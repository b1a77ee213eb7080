use Rattle.model.proofs.OldSlotsExact.{old_slots_exact}
use Rattle.model.proofs.laws.old_slots_are_exact.Goals as goal

pub returns : goal.returns
returns c = old_slots_exact
