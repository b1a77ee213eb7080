use Rattle.std.proofs.Common.{false}
use Rattle.nursery.proofs.AreaLaws.{Written}
use Rattle.nursery.proofs.block_table.area_flags.AreaFlags.remove.Given as goal

abbrev pub invariant-loop-generation : goal.invariant-loop-generation
invariant-loop-generation g l = Written false l.initial.self-inside.young.items l.self-inside.young.items l.number 0 l.generation
