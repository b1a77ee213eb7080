use Rattle.workers.proofs.Order.{ordered}
use Rattle.workers.proofs.HandedOn.{handed_on}
use Rattle.workers.proofs.GoOn.{go_on}
use Rattle.workers.proofs.ScanOwn.{scan_own}
use Rattle.workers.proofs.parts_in_order.Goals as goal

pub returns : goal.returns
returns c = λ setting f parts j small_blocks fresh turns. (ordered setting f parts j small_blocks fresh turns, (handed_on setting f parts j small_blocks fresh, (go_on setting f parts j small_blocks fresh turns, scan_own setting f parts j small_blocks fresh turns)))
