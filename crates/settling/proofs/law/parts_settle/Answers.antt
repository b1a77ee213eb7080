use Rattle.settling.proofs.Bridge.{settled}
use Rattle.settling.proofs.law.parts_settle.Goals as goal

pub returns : goal.returns
returns c = settled
