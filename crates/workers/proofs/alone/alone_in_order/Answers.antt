use Rattle.workers.proofs.AloneSteps.{ended_in_order}
use Rattle.workers.proofs.alone.alone_in_order.Goals as goal

pub returns : goal.returns
returns c = λ setting d slots free small count s r steps ended l room tells w here. ended_in_order setting d slots free small tells room count s r steps ended l w here
