use Rattle.machine.proofs.Choosing.{ended_says}
use Rattle.machine.proofs.workers_in_turn.interleaved.InterleavedCollection.all_ended.Goals as goal

pub returns : goal.returns
returns g c = ended_says c.args.self.now c.lowest_going.result c.is_none.result c.lowest_going.ensures c.is_none.ensures
