use Rattle.workers.proofs.Taken.{taken_in_order}
use Rattle.workers.proofs.run_orders.exports_are_taken_in_order.Goals as goal

pub returns : goal.returns
returns c = λ setting d n slots free s reached. taken_in_order setting d n slots free s reached
