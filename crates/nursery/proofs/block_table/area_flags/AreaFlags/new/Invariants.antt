use Rattle.std.proofs.Common.{◌≡◌, [], replicate}
use Rattle.nursery.proofs.block_table.area_flags.AreaFlags.new.Given as goal

abbrev pub invariant-loop : goal.invariant-loop
invariant-loop g l = l.young.items ≡ replicate l.counter []
