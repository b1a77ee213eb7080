use Rattle.forwarding.proofs.PlainStart.{empty_are}
use Rattle.forwarding.proofs.plain_cells.plain_cells.PlainCells.empty.Goals as goal

pub invariant_of-result : goal.invariant_of-result
invariant_of-result g c = rw (c.in_ok-words.ensures.zeros, c.of-held.ensures) (empty_are c.args.count c.args.passes c.ranges.count.fits)
