use Rattle.std.proofs.Common.{arith}
use Rattle.std.proofs.lemmas.Grind.{common_steps}
use Rattle.forwarding.proofs.box_cells.box_cells.BoxPass.words.Goals as goal

pub loop-known-preserved : goal.loop-known-preserved
loop-known-preserved g c = grind (arith, common_steps)
