use Rattle.std.proofs.Common.{refl}
use Rattle.collector.proofs.ByThreads.{placed}
use Rattle.collector.proofs.apart.ended.Goals as goal

pub gathered-requires-clause-placed : goal.gathered-requires-clause-placed
gathered-requires-clause-placed g c κs within = placed _ _ _ _ _ _ _ _ _ _ _ _ c.requires.settled c.in-Ok.forwards _ c.in-Ok.is refl
