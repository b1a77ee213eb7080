use Rattle.nursery.proofs.AreaLaws.{Widened}
use Rattle.nursery.proofs.block_table.area_flags.AreaFlags.reserve.Given as goal

abbrev pub invariant-loop-generation : goal.invariant-loop-generation
invariant-loop-generation g l = Widened l.initial.self-inside.young.items l.self-inside.young.items l.len l.generation
