use Rattle.workers.proofs.Scans.{scans_in_order}
use Rattle.workers.proofs.run_orders.run_scans_in_order.Goals as goal

pub returns : goal.returns
returns c = λ graph g shape block_words d n slots free s reached ended small empty. scans_in_order graph g shape block_words d n slots free s reached empty ended small
