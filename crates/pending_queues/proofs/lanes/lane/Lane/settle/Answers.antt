use Rattle.std.proofs.Common.{rules}
use Rattle.pending_queues.proofs.LaneMoves.{settles}
use Rattle.pending_queues.proofs.lanes.lane.Lane.settle.Goals as goal

pub len_as-requires-clause-rule : goal.len_as-requires-clause-rule
len_as-requires-clause-rule g c = settles g.C.Cargo.fits _ _

pub returns-clause-same : goal.returns-clause-same
returns-clause-same g c = search rules

pub returns-clause-whole : goal.returns-clause-whole
returns-clause-whole g c = search rules

pub returns-clause-left : goal.returns-clause-left
returns-clause-left g c = search rules
