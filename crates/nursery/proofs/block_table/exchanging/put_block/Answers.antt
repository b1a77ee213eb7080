use Rattle.std.proofs.Common.{arith, rules}
use Rattle.std.proofs.lemmas.Grind.{common_steps}
use Rattle.nursery.proofs.block_table.exchanging.put_block.Goals as goal

pub offset_bounds-table-number : goal.offset_bounds-table-number
offset_bounds-table-number g c = grind (arith, common_steps)

pub returns : goal.returns
returns g c = search rules
