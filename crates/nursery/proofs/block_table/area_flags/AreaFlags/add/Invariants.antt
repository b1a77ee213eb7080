use Rattle.std.proofs.Common.{true}
use Rattle.nursery.proofs.AreaLaws.{Written}
use Rattle.nursery.proofs.block_table.area_flags.AreaFlags.add.Given as goal

abbrev pub invariant-loop-older : goal.invariant-loop-older
invariant-loop-older g l = Written true l.initial.self-inside.young.items l.self-inside.young.items l.number l.fn.generation l.older
