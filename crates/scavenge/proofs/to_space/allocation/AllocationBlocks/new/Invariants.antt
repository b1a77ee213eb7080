use Rattle.std.proofs.Common.{◌≡◌, ◌≤◌, None, replicate, vec_capacity}
use Rattle.scavenge.proofs.to_space.allocation.AllocationBlocks.new.Given as goal

abbrev pub invariant-loop : goal.invariant-loop
invariant-loop g l = record {
  made : l.blocks.items ≡ replicate l.counter None;
  room : l.count ≤ vec_capacity l.blocks;
}
